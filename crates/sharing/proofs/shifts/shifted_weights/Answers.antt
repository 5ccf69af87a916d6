use borrow.Author.Rules.{rules}
use mir.Facts.{to_z-of_z}
use Rattle.sharing.proofs.shifts.Steps.{at_v_carried, lone_shifted, pair_shifted, q_held, r_held, at_w_carried, r_within, q_within, lone_held, lone_within, p_within, p_held, at_u_carried}
use Rattle.sharing.proofs.shifts.shifted_weights.Goals as goal

pub shifted-requires : goal.shifted-requires
shifted-requires c = search (rules, at_v_carried, p_within, p_held, to_z-of_z)

pub shifted-requires-in-Pair : goal.shifted-requires-in-Pair
shifted-requires-in-Pair c = search (rules, at_w_carried, q_within, q_held, to_z-of_z)

pub shifted-requires-in-Pair-2 : goal.shifted-requires-in-Pair-2
shifted-requires-in-Pair-2 c = search (rules, at_u_carried, r_within, r_held, to_z-of_z)

pub shifted-requires-in-Lone : goal.shifted-requires-in-Lone
shifted-requires-in-Lone c = search (rules, at_v_carried, lone_within, lone_held, to_z-of_z)

pub returns-in-Pair : goal.returns-in-Pair
returns-in-Pair c = search (pair_shifted, to_z-of_z)

pub returns-in-Lone : goal.returns-in-Lone
returns-in-Lone c = search (lone_shifted, to_z-of_z)
