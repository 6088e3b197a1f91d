-- Neighbours of which none stands before the one before it.
use Rattle.bag_text.proofs.Common.{◌≡◌, ◌+◌, ℕ, List, Bool, false, true, refl, ap, ◌∙◌, IsTrue, get_or, is_lt, is_le}
use Rattle.bag_text.proofs.Common.{IsAllAdjacentAnswer, IsSortedByKey, nat_list_cmp_total, ordering_reverse, text_cmp}
use Rattle.std.specs.declared.cmp.Ordering.{Ordering}
use Rattle.std.specs.declared.cmp.Ordering.TheVariants.{Less, Equal, Greater}

not_less : (o : Ordering) → true ≡ is_le o → is_lt (ordering_reverse o) ≡ false
not_less Less e = refl
not_less Equal e = refl
not_less Greater e = cc

pub sorted_by_neighbours : {T : Type 0} (path : T → List ℕ) (items : List T) (r : Bool)
    → IsAllAdjacentAnswer (λ x y b. b ≡ is_le (text_cmp (path x) (path y))) items r → IsTrue r
    → IsSortedByKey path text_cmp items
sorted_by_neighbours path items true h t = λ k d low below.
    let first = path (get_or items k d) in
    let second = path (get_or items (k + 1) d) in
    ap is_lt (nat_list_cmp_total.antisymm second first) ∙ not_less (text_cmp first second) (h k d below)
sorted_by_neighbours path items false h t = cc
