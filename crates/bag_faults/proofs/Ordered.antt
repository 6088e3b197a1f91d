-- The order of faults.
use Rattle.bag_faults.proofs.Common.{◌≡◌, refl, Ordering, Equal, ordering_then, IsTotalOrder, nat_cmp_total}
use Rattle.bag_faults.proofs.Common.{nat_list_cmp_total, IsAntisymmetric, nat_cmp-IsAntisymmetric}
use Rattle.bag_faults.proofs.Common.{slice_cmp-IsAntisymmetric, on_total, then_total, rank_or_zero, number, stage}
use Rattle.bag_faults.proofs.Common.{fault_cmp, EqualFaultsAreOne}
use Rattle.bag_faults.proofs.Ascending.{equal_is_one}
use Rattle.bag_faults.proofs.Algs.{same_alg}
use Rattle.bag_faults.proofs.Codes.{same_code}

pub fault_cmp_total : IsTotalOrder fault_cmp
fault_cmp_total =
    then_total (then_total (then_total (then_total (then_total
    (on_total (λ f. stage f.code) nat_cmp_total)
    (on_total (λ f. f.path) nat_list_cmp_total))
    (on_total (λ f. rank_or_zero f.alg) nat_cmp_total))
    (on_total (λ f. f.line) nat_cmp_total))
    (on_total (λ f. number f.code) nat_cmp_total))
    (on_total (λ f. f.detail) nat_list_cmp_total)

-- both comparisons of a pair tie where the pair does
both_tie : (a b : Ordering) → ordering_then a b ≡ Equal → (a ≡ Equal) × (b ≡ Equal)
both_tie Equal b e = (refl, e)
both_tie _ b e = cc

-- faults that tie are one fault
pub fault_cmp_same : IsAntisymmetric fault_cmp
fault_cmp_same f g e =
    let details = both_tie _ _ e in
    let numbers = both_tie _ _ details.0 in
    let lines = both_tie _ _ numbers.0 in
    let ranks = both_tie _ _ lines.0 in
    let paths = both_tie _ _ ranks.0 in
    let code_is = same_code f.code g.code (nat_cmp-IsAntisymmetric _ _ numbers.1) in
    let path_is = slice_cmp-IsAntisymmetric nat_cmp-IsAntisymmetric f.path g.path paths.1 in
    let alg_is = same_alg f.alg g.alg (nat_cmp-IsAntisymmetric _ _ ranks.1) in
    let line_is = nat_cmp-IsAntisymmetric f.line g.line lines.1 in
    let detail_is = slice_cmp-IsAntisymmetric nat_cmp-IsAntisymmetric f.detail g.detail details.1 in
    λ i. record { code = code_is i; path = path_is i; alg = alg_is i; line = line_is i; detail = detail_is i }

pub equal_faults_are_one : EqualFaultsAreOne
equal_faults_are_one = equal_is_one fault_cmp_total fault_cmp_same
