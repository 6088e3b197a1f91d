-- Faults of earlier reports keep their order and their lines.
use Rattle.bag_faults.proofs.Common.{◌≡◌, ◌<◌, Option, Some, None, refl, arith, decimal, nat_cmp, name, rank}
use Rattle.bag_faults.proofs.Common.{rank_or_zero, Alg, Sha224, Sha384, alg_field}
use Rattle.bag_faults.specs.EarlierReports.{earlier_rank, earlier_name, earlier_rank_or_zero, earlier_alg_field}
use Rattle.bag_faults.proofs.laws.earlier_reports_hold.Goals as goal

same_name : (alg : Alg) → 0 < earlier_rank alg → name alg ≡ earlier_name alg
same_name Sha224 was = absurd (omega (arith, was))
same_name Sha384 was = absurd (omega (arith, was))
same_name _ was = refl

same_field : (alg : Option Alg) → ((a : Alg) → alg ≡ Some a → 0 < earlier_rank a)
    → alg_field alg ≡ earlier_alg_field alg
same_field None was = refl
same_field (Some alg) was = same_name alg (was alg refl)

same_order : (a b : Alg) → 0 < earlier_rank a → 0 < earlier_rank b
    → nat_cmp (rank a) (rank b) ≡ nat_cmp (earlier_rank a) (earlier_rank b)
same_order Sha224 b was was_too = absurd (omega (arith, was))
same_order Sha384 b was was_too = absurd (omega (arith, was))
same_order _ Sha224 was was_too = absurd (omega (arith, was_too))
same_order _ Sha384 was was_too = absurd (omega (arith, was_too))
same_order _ _ was was_too = refl

same_place : (a b : Option Alg) → ((alg : Alg) → a ≡ Some alg → 0 < earlier_rank alg)
    → ((alg : Alg) → b ≡ Some alg → 0 < earlier_rank alg)
    → nat_cmp (rank_or_zero a) (rank_or_zero b) ≡ nat_cmp (earlier_rank_or_zero a) (earlier_rank_or_zero b)
same_place None None was was_too = refl
same_place None (Some b) was was_too = grind arith
same_place (Some a) None was was_too = grind arith
same_place (Some a) (Some b) was was_too = same_order a b (was a refl) (was_too b refl)

pub returns-clause-order : goal.returns-clause-order
returns-clause-order c f g was was_too = grind (arith, same_place)

pub returns-clause-lines : goal.returns-clause-lines
returns-clause-lines c line f was = grind (arith, decimal, same_field)
