-- A search of an ascending list for one text after another.
use Rattle.bag_stages.proofs.Common.{◌≡◌, ◌≢◌, ◌<◌, ◌+◌, ◌∷◌, ◌↔◌, ℕ, List, [], true, false, Bool, length, take, get_or}
use Rattle.bag_stages.proofs.Common.{map, ap, ◌∙◌, subst, arith, map-append, Contains, IsTrue, nat_list_cmp_total, on}
use Rattle.bag_stages.proofs.Common.{ordering_reverse, Less, Equal, Greater, text_cmp, contains_behind, contains_cases}
use Rattle.bag_stages.proofs.Common.{contains_first, contains_front, contains_back, contains_nothing, member_has}
use Rattle.bag_stages.proofs.Common.{not_both, contains_mapped, take_one_more, exact_texts}
use Rattle.std.specs.List.Sorted.{IsStrictlySortedBy}
use Rattle.bag_stages.proofs.ByItem.{before_next}
use Rattle.bag_stages.specs.Sought.{IsSought}

-- the rest of an ascending list, which has those of its members that are above
pub record IsRest (IsAbove : List ℕ → Type 0) (all rest : List (List ℕ)) : Type 0 where
  pub ascending : IsStrictlySortedBy text_cmp rest
  pub later : (other : List ℕ) → IsAbove other → Contains all other ↔ Contains rest other

pub whole_rest : (IsAbove : List ℕ → Type 0) (all : List (List ℕ)) → IsStrictlySortedBy text_cmp all
    → IsRest IsAbove all all
whole_rest IsAbove all s = record { ascending = s; later = λ other above. (λ c. c, λ c. c) }

-- the rest without some that are less than a text, and with none that isn't greater than each of these
abbrev pub IsPast : List ℕ → List (List ℕ) → List (List ℕ) → Type 0
IsPast text = IsRest (λ other. text_cmp other text ≢ Less)

abbrev pub Follows : List (List ℕ) → List (List ℕ) → List (List ℕ) → Type 0
Follows before = IsRest (λ other. (text : List ℕ) → Contains before text → text_cmp text other ≡ Less)

both : {A B C : Type 0} → A ↔ B → B ↔ C → A ↔ C
both p q = (λ a. q.0 (p.0 a), λ c. p.1 (q.1 c))

not_itself : (text : List ℕ) → text_cmp text text ≢ Less
not_itself text less = not_both nat_list_cmp_total text text less less

module _ (text : List ℕ) (all : List (List ℕ)) where
  later_past : (rest : List (List ℕ)) → IsPast text all rest → (other : List ℕ) → text_cmp text other ≡ Less
      → Contains all other ↔ Contains rest other
  later_past rest past other less = past.later other (λ back. not_both nat_list_cmp_total text other less back)

  -- the list ends
  pub sought_nowhere : (rest : List (List ℕ)) → IsPast text all rest → length rest ≡ 0 → IsSought text all rest false
  sought_nowhere [] past none = record {
    ascending = past.ascending;
    later = later_past [] past;
    found = grind (arith, past.later text (not_itself text), contains_nothing);
  }
  sought_nowhere (first ∷ rest) past none = absurd (omega arith)

  module _ (first : List ℕ) (rest : List (List ℕ)) (past : IsPast text all (first ∷ rest)) where
    behind : IsStrictlySortedBy text_cmp rest
    unfolding IsStrictlySortedBy
    behind = past.ascending.1

    above : (other : List ℕ) → Contains rest other → text_cmp first other ≡ Less
    unfolding IsStrictlySortedBy
    above other c = member_has (λ p. text_cmp first p ≡ Less) rest other past.ascending.0 c

    -- a member but the first
    but_first : (other : List ℕ) → first ≢ other → Contains (first ∷ rest) other ↔ Contains rest other
    but_first other differs = grind (arith, contains_cases, contains_behind)

    -- its first is less
    pub past_first : text_cmp first text ≡ Less → IsPast text all rest
    past_first less =
        record {
          ascending = behind;
          later = λ other not.
              both (past.later other not) (but_first other (λ e. grind arith));
        }

    -- its first is the text
    pub sought_first : text_cmp first text ≡ Equal → IsSought text all rest true
    sought_first tied = record {
      ascending = behind;
      later = λ other less.
          both (later_past (first ∷ rest) past other less)
          (but_first other (λ e. grind (arith, not_itself other, exact_texts first text tied)));
      found = grind (arith, past.later text (not_itself text), contains_first first rest, exact_texts first text tied);
    }

    -- its first is greater
    pub sought_before : text_cmp first text ≡ Greater → IsSought text all (first ∷ rest) false
    sought_before greater =
        let less : text_cmp text first ≡ Less = nat_list_cmp_total.antisymm text first ∙ ap ordering_reverse greater in
        record {
          ascending = past.ascending;
          later = later_past (first ∷ rest) past;
          found =
              grind (
                arith,
                past.later text (not_itself text),
                contains_cases first rest text,
                not_itself text,
                above text,
                not_both nat_list_cmp_total text first,
              );
        }

-- the search of the rest for the text of the next item tells of the whole list, and leaves the rest
-- after that text
pub sought_next : {I : Type 0} (path_of : I → List ℕ) (items : List I) (i : ℕ) (item : I)
    (all rest after : List (List ℕ)) (is_found : Bool) → IsStrictlySortedBy (on path_of text_cmp) items
    → i < length items → item ≡ get_or items i item → Follows (map path_of (take i items)) all rest
    → IsSought (path_of item) rest after is_found
    → (IsTrue is_found ↔ Contains all (path_of item)) × Follows (map path_of (take (i + 1) items)) all after
sought_next path_of items i item all rest after is_found ascending within here follows sought =
    let text : List ℕ = path_of item in
    let before : List (List ℕ) = map path_of (take i items) in
    let whole = follows.later text (λ t c. let at = contains_mapped path_of (take i items) t c in
    subst (λ p. text_cmp p text ≡ Less) at.2
    (before_next (on path_of text_cmp) items i item at.0 ascending within here at.1)) in (
      (λ f. whole.1 (sought.found.0 f), λ c. sought.found.1 (whole.0 c)),
      rw (ap (map path_of) (take_one_more items i item within here) ∙ map-append path_of (take i items) (item ∷ []))
          (record {
            ascending = sought.ascending;
            later = λ other greater.
                both (follows.later other (λ t c. greater t (contains_front before (text ∷ []) t c)))
                (sought.later other (greater text (contains_back before (text ∷ []) text (contains_first text []))));
          }),
    )
