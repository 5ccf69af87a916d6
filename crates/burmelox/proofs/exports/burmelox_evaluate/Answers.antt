use borrow.Author.Rules.{rules}
use mir.Facts.{to_z-of_z}
use Rattle.burmelox.proofs.exports.Steps.{refused_short, refused_code, refused_value, given_code, given_value, evaluated}
use Rattle.burmelox.proofs.exports.burmelox_evaluate.Goals as goal

named : {A B C D E : Type 0} → A × B × C × D × E → record { code : A; answer : B; written : C; kept : D; promises : E }
named h = record { code = h.0; answer = h.1; written = h.2; kept = h.3; promises = h.4 }

pub code-requires : goal.code-requires
code-requires c = search refused_short

pub returns-in-Err : goal.returns-in-Err
returns-in-Err c = named (evaluated _ _ _ (search rules) _ _ _ (search refused_code) (search refused_value))

pub returns-in-Ok : goal.returns-in-Ok
returns-in-Ok c = named (evaluated _ _ _ (search rules) _ _ _ (search given_code) (search (given_value, to_z-of_z)))
