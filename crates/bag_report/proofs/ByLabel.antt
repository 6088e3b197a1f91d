-- Elements that are sorted by their labels, and the run of one label among them.
use Rattle.bag_report.proofs.Conforming.{◌≡◌, ◌≤◌, zero, suc, ℕ, List, [], ◌∷◌, length, take, drop, filter, Bool, true}
use Rattle.bag_report.proofs.Conforming.{false, not, ◌&&◌, eqb, refl, sym, ap, ◌∙◌, arith, nat_list_cmp_total}
use Rattle.bag_report.proofs.Conforming.{AllWithin, IsNonDecreasingBy, IsPartitionedBy, IsPartitionPoint, IsStableBy}
use Rattle.bag_report.proofs.Conforming.{ties, is_lt, ordering_index, bytes_eq, str_to_ascii_lowercase, get_or-drop}
use Rattle.bag_report.proofs.Conforming.{searchable_from_sorted, same_label, text_cmp, Element, lent, labelled}
use Rattle.bag_report.proofs.Conforming.{label_cmp, folded_label, IsByLabel}
use Rattle.std.proofs.Common.{Bor}
use Rattle.std.specs.Cmp.Lexicographic.{texts_ties}
use Rattle.std.specs.declared.cmp.Ordering.{Ordering}
use Rattle.std.specs.declared.cmp.Ordering.TheVariants.{Less}
use Rattle.std.proofs.lemmas.List.{length-drop}
use Rattle.std.proofs.lemmas.List.Elements.{filter_agree}

-- what passes a test in a list whose front fails it, and in one whose front passes it and whose rest fails it
module _ {X : Type 0} (p : X → Bool) where
  kept_rest : (xs : List X) (i : ℕ) → AllWithin (λ x. p x ≡ false) xs 0 i → i ≤ length xs
      → filter p xs ≡ filter p (drop i xs)
  kept_rest xs zero fails within = refl
  kept_rest [] (suc i) fails within = refl
  kept_rest (x ∷ xs) (suc i) fails within =
      grind (arith, fails 0 x, kept_rest xs i (λ k d low high. fails (suc k) d (omega arith) (omega arith)))

  kept_front : (xs : List X) (n : ℕ) → AllWithin (λ x. p x ≡ true) xs 0 n
      → AllWithin (λ x. p x ≡ false) xs n (length xs) → n ≤ length xs → filter p xs ≡ take n xs
  kept_front [] zero passes fails within = refl
  kept_front [] (suc n) passes fails within = refl
  kept_front (x ∷ xs) zero passes fails within =
      let more =
      kept_front xs zero (λ k d low high. absurd (omega arith))
      (λ k d low high. fails (suc k) d (omega arith) (omega arith)) (omega arith) in
      grind (arith, fails 0 x, more)
  kept_front (x ∷ xs) (suc n) passes fails within =
      let more =
      kept_front xs n (λ k d low high. passes (suc k) d (omega arith) (omega arith)) (λ k d low high.
      fails (suc k) d (omega arith) (omega arith)) in
      grind (arith, passes 0 x, more)

kept_lent : (p : Element → Bool) (xs : List (Bor Element)) → filter p (lent xs) ≡ lent (filter (λ y. p y.now) xs)
kept_lent p [] = refl
kept_lent p (x ∷ xs) = grind (arith, kept_lent p xs)

-- what an answer tells: that a text is below another, and that both are one
lower_ranks : (o : Ordering) → is_lt o ≡ true → ordering_index o ≡ 0
lower_ranks Less e = refl
lower_ranks _ e = cc

ranks_lower : (o : Ordering) → ordering_index o ≡ 0 → is_lt o ≡ true
ranks_lower Less e = refl
ranks_lower _ e = absurd (omega (arith, e))

tied : (a b : List ℕ) → (not (is_lt (text_cmp a b)) && not (is_lt (text_cmp b a))) ≡ bytes_eq b a
tied a b = grind (arith, nat_list_cmp_total, texts_ties)

-- a stable sort by the labels keeps the elements of each label in their order
abbrev pub comes_before : Bor Element → Bor Element → Bool
comes_before x y = is_lt (text_cmp (folded_label x) (folded_label y))

pub labels_stay : (old new : List (Bor Element)) (elements : List Element) → lent old ≡ elements
    → IsStableBy comes_before old new → (label : List ℕ) → labelled label (lent new) ≡ labelled label elements
labels_stay old new elements is stable label =
    let one : Bor Element = record { ref_ptr = (0, 0); now = record { line = 0; label = label; value = [] } } in
    let agree : (x : Bor Element) → same_label x.now.label label ≡ ties comes_before one x = λ x.
    sym (tied (str_to_ascii_lowercase label) (str_to_ascii_lowercase x.now.label)) in
    let has : Bor Element → Bool = λ x. same_label x.now.label label in
    kept_lent (λ e. same_label e.label label) new
    ∙ ap lent (filter_agree has (ties comes_before one) agree new ∙ stable one
    ∙ sym (filter_agree has (ties comes_before one) agree old))
    ∙ sym (kept_lent (λ e. same_label e.label label) old) ∙ ap (labelled label) is

-- the run of a label
module _ (label : List ℕ) where
  abbrev rank : Bor Element → ℕ
  rank e = ordering_index (label_cmp e.now.label label)

  abbrev pub is_below : Bor Element → Bool
  is_below e = is_lt (label_cmp e.now.label label)

  abbrev pub has_label : Bor Element → Bool
  has_label e = same_label e.now.label label

  label_ranks : (e : Bor Element) → has_label e ≡ eqb (rank e) 1
  label_ranks e = grind (arith, texts_ties)

  below_lacks : (e : Bor Element) → is_below e ≡ true → has_label e ≡ false
  below_lacks e below = label_ranks e ∙ ap (λ n. eqb n 1) (lower_ranks (label_cmp e.now.label label) below)

  module _ (elements : List (Bor Element)) (sorted : IsByLabel elements) where
    rises : IsNonDecreasingBy rank elements
    rises = searchable_from_sorted nat_list_cmp_total folded_label elements (str_to_ascii_lowercase label) sorted

    -- those below the label stand first
    pub below_first : IsPartitionedBy is_below elements
    below_first i j d low high below = grind (arith, rises, lower_ranks, ranks_lower)

    module _ (i : ℕ) (split : IsPartitionPoint (λ e. is_below e ≡ true) (λ e. is_below e ≡ false) elements i) where
      -- and then those that have it
      pub label_first : IsPartitionedBy has_label (drop i elements)
      label_first j k d low high has = grind (arith, rises, label_ranks, get_or-drop, length-drop)

      pub run_is : (k : ℕ) → i ≤ length elements → k ≤ length (drop i elements)
          → IsPartitionPoint (λ e. has_label e ≡ true) (λ e. has_label e ≡ false) (drop i elements) k
          → lent (take k (drop i elements)) ≡ labelled label (lent elements)
      run_is k within inside part =
          grind (
            arith,
            kept_rest,
            below_lacks,
            kept_lent,
            kept_front has_label (drop i elements) k part.0 part.1 inside,
          )
