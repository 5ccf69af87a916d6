use borrow.Author.Rules.{rules}
use mir.Facts.{to_z-of_z}
use Rattle.burmelox.proofs.exports.Steps.{search_short, unfound_code, unfound_floor, unfound_tried, found_code, found_floor, found_tried, search_output_lem, searched}
use Rattle.burmelox.proofs.exports.burmelox_search.Goals as goal

named : {A B C D E F G : Type 0} → A × B × C × D × E × F × G
    → record { code : A; answer : B; written : C; floor : D; tried : E; kept : F; promises : G }
named h = record { code = h.0; answer = h.1; written = h.2; floor = h.3; tried = h.4; kept = h.5; promises = h.6 }

pub code-requires : goal.code-requires
code-requires c = search (search_short, to_z-of_z)

pub returns-in-Err : goal.returns-in-Err
returns-in-Err c = named (searched _ _ _ _ _ _ _ (search rules) (search rules) _ _ _ _ _ _ (search (unfound_code, to_z-of_z))
    (search (unfound_floor, to_z-of_z)) (search (unfound_tried, to_z-of_z)) (search (search_output_lem, to_z-of_z)))

pub returns-in-Ok : goal.returns-in-Ok
returns-in-Ok c = named (searched _ _ _ _ _ _ _ (search rules) (search rules) _ _ _ _ _ _ (search (found_code, to_z-of_z))
    (search (found_floor, to_z-of_z)) (search (found_tried, to_z-of_z)) (search (search_output_lem, to_z-of_z)))
