-- The faults of names that clash, of an ascending list of names.
use Rattle.bag_stages.proofs.Common.{arith, drop-cons, suc, filter-append, kept, refl, ◌≡◌, ◌<◌, ◌↔◌, ◌+◌}
use Rattle.bag_stages.proofs.Common.{◌++◌, ◌∷◌, ℕ, List, [], length, take, drop, take-append-drop, get_or, Option, None}
use Rattle.bag_stages.proofs.Common.{Some, Bool, true, false, ap, sym, ◌∙◌, subst, cond, Contains, bytes_eq}
use Rattle.bag_stages.proofs.Common.{if◌then◌else◌, Bor, nat_list_cmp_total, IsStrictlySortedBy, option_map}
use Rattle.bag_stages.proofs.Common.{option_to_list, IsAscii, Less, bytes_eq-Decides, IsListOf, text_cmp}
use Rattle.bag_stages.proofs.Common.{All, All-contains, contains_first, nothing_listed, one_listed, same_members, Bag}
use Rattle.bag_stages.proofs.Common.{not_less_than_itself, fault_cmp, Fault, take_one_more, first_with}
use Rattle.bag_stages.proofs.Common.{name_clash, IsClashAmong, IsClashOf, IsClashFault, nfc_of, IsLeastAlike}
use Rattle.bag_stages.proofs.Common.{IsPayloadName, texts_of}
use Rattle.bag_stages.proofs.FaultFields.{made_of}
use Rattle.bag_stages.proofs.ByItem.{OfSome, before_next, one_item_more}
use Rattle.bag_stages.proofs.InFile.{less_by_path}
use Rattle.bag_stages.specs.CompletenessStage.{CompletenessHolds, IsOfCompleteness}
use Rattle.bag_stages.proofs.LeastNames.{ascii_itself, first_is_least, of_form, one_least, same_least}
use Rattle.bag_stages.proofs.PayloadNames.{Lent, text, text_at, text_within}

-- the first of some names
abbrev pub head_of : List (List ℕ) → Option (List ℕ)
head_of [] = None
head_of (name ∷ names) = Some name

head_by : (b : Bool) (name : List ℕ) → head_of (cond b (name ∷ []) []) ≡ (if b then Some name else None)
head_by true name = refl
head_by false name = refl

head_more : (some : List (List ℕ)) (name form : List ℕ)
    → head_of (some ++ of_form form (name ∷ [])) ≡ first_with (head_of some) name form
head_more [] name form = head_by (bytes_eq (nfc_of name) form) name
head_more (x ∷ some) name form = refl

module _ (names : List (List ℕ)) (i : ℕ) (name : List ℕ) (lt : i < length names) (is : name ≡ get_or names i name) where
  -- the first names of forms, and one more name
  firsts_more : (old new : List ℕ → Option (List ℕ))
      → ((form : List ℕ) → old form ≡ head_of (of_form form (take i names)))
      → ((form : List ℕ) → new form ≡ first_with (old form) name form)
      → (form : List ℕ) → new form ≡ head_of (of_form form (take (i + 1) names))
  firsts_more old new firsts made form =
      made form ∙ ap (λ o. first_with o name form) (firsts form)
      ∙ sym (head_more (of_form form (take i names)) name form)
      ∙ ap head_of (sym
      (ap (of_form form) (take_one_more names i name lt is)
      ∙ filter-append (λ n. bytes_eq (nfc_of n) form) (take i names) (name ∷ [])))

  module _ (sorted : IsStrictlySortedBy text_cmp names) where
    -- names of the form stand before the name, or it is the first of its class
    least_here : (first : List ℕ) (rest : List (List ℕ))
        → of_form (nfc_of name) (take i names) ++ name ∷ of_form (nfc_of name) (drop (suc i) names) ≡ first ∷ rest
        → IsLeastAlike (Contains names) name first
    least_here first rest e =
        let form : List ℕ = nfc_of name in
        let behind : List (List ℕ) = drop (suc i) names in
        let all : names ≡ take i names ++ name ∷ behind =
        sym (take-append-drop i names)
        ∙ ap (λ ns. take i names ++ ns) (drop-cons names i name lt ∙ ap (λ n. n ∷ behind) (sym is)) in
        first_is_least names name first rest sorted
        (ap (of_form form) all ∙ filter-append (λ n. bytes_eq (nfc_of n) form) (take i names) (name ∷ behind)
        ∙ ap (λ b. of_form form (take i names) ++ cond b (name ∷ of_form form behind) (of_form form behind))
        ((bytes_eq-Decides form form).1 refl) ∙ e)

    -- the fault of the name, if an earlier one has its form
    clash_by : (some : List (List ℕ)) → of_form (nfc_of name) (take i names) ≡ some
        → IsListOf fault_cmp (IsClashOf (Contains names) name)
        (option_to_list (option_map (name_clash name) (head_of some)))
    clash_by [] e =
        let own = least_here name _ (ap (λ ns. ns ++ name ∷ of_form (nfc_of name) (drop (suc i) names)) e) in
        nothing_listed fault_cmp (IsClashOf (Contains names) name) (λ f h.
        h.2.2 (one_least (Contains names) name h.0 name h.2.1 own))
    clash_by (least ∷ some) e =
        let own = least_here least _ (ap (λ ns. ns ++ name ∷ of_form (nfc_of name) (drop (suc i) names)) e) in
        let seen =
        kept (λ n. bytes_eq (nfc_of n) (nfc_of name)) (take i names) least
        (subst (λ ns. Contains ns least) (sym e) (contains_first least some)) in
        one_listed fault_cmp (IsClashOf (Contains names) name) (name_clash name least) (
          least,
          refl,
          (
            (i, lt, sym is),
            own,
            λ same.
                not_less_than_itself nat_list_cmp_total least name same
                (before_next text_cmp names i name least sorted lt is seen.1),
          ),
        )
        (λ f h. h.1 ∙ ap (name_clash name) (one_least (Contains names) name h.0 least h.2.1 own))

-- the first name of a form, after the name whose form none had was put into the map
pub first_by_map : (b : Bool) (o : Option (Bor (List ℕ))) (name : Bor (List ℕ)) (form : List ℕ)
    → bytes_eq (nfc_of name.now) form ≡ b → (b ≡ true → o ≡ None)
    → option_map (λ (n : Bor (List ℕ)). n.now) (cond b (Some name) o)
    ≡ first_with (option_map (λ (n : Bor (List ℕ)). n.now) o) name.now form
first_by_map true None name form is none = sym (ap (λ t. if t then Some name.now else None) is)
first_by_map b o name form is none = grind arith

module _ (names : List (List ℕ)) where
  -- faults are ordered as their names
  less_clash : (a b : List ℕ) (x y : Fault) → IsClashOf (Contains names) a x → IsClashOf (Contains names) b y
      → text_cmp a b ≡ Less → fault_cmp x y ≡ Less
  less_clash a b x y h k less = grind (arith, less_by_path)

  pub all_clashes : (faults : List Fault) → IsListOf fault_cmp (OfSome (IsClashOf (Contains names)) names) faults
      → IsListOf fault_cmp (IsClashAmong (Contains names)) faults
  all_clashes faults list = same_members fault_cmp _ _ faults (λ f h. (h.0, h.2)) (λ f h. (h.0, h.1.2.0, h.1)) list

  -- ASCII names don't clash
  pub no_ascii_clashes : All IsAscii names → IsListOf fault_cmp (IsClashAmong (Contains names)) []
  no_ascii_clashes ascii =
      nothing_listed fault_cmp (IsClashAmong (Contains names))
      (λ f h. grind (arith, ascii_itself, All-contains IsAscii names))

-- one more lent name
module _ (lent : List Lent) (i : ℕ) (d : Lent) (sorted : IsStrictlySortedBy text_cmp (texts_of lent))
    (lt : i < length lent) where
  abbrev of_lent : List (List ℕ)
  of_lent = texts_of lent

  abbrev lent_name : List ℕ
  lent_name = text (get_or lent i d)

  abbrev AreDone : ℕ → (List ℕ → Option (List ℕ)) → List Fault → Type 0
  AreDone k firsts faults =
      ((form : List ℕ) → firsts form ≡ head_of (of_form form (take k of_lent)))
      × IsListOf fault_cmp (OfSome (IsClashOf (Contains of_lent)) (take k of_lent)) faults

  pub one_lent_more : (old new : List ℕ → Option (List ℕ)) (faults : List Fault) (o : Option Fault)
      → AreDone i old faults → o ≡ option_map (name_clash lent_name) (old (nfc_of lent_name))
      → ((form : List ℕ) → new form ≡ first_with (old form) lent_name form)
      → AreDone (i + 1) new (faults ++ option_to_list o)
  one_lent_more old new faults o done clash made =
      let within : i < length of_lent = text_within lent i lt in
      let is : lent_name ≡ get_or of_lent i lent_name = text_at lent i d lt in (
        firsts_more of_lent i lent_name within is old new done.0 made,
        one_item_more text_cmp (IsClashOf (Contains of_lent)) (less_clash of_lent) of_lent i lent_name faults
            (option_to_list o) sorted within is done.1
            (rw (clash, done.0 (nfc_of lent_name))
            (clash_by of_lent i lent_name within is sorted (of_form (nfc_of lent_name) (take i of_lent)) refl)),
      )

-- the same names in other words
same_clash : (P Q : List ℕ → Type 0) (f : Fault) → ((name : List ℕ) → P name → Q name)
    → ((name : List ℕ) → Q name → P name) → IsClashAmong P f → IsClashAmong Q f
same_clash P Q f to from (name, (least, is, (p, h, other))) =
    (name, (least, is, (to name p, same_least P Q name least to from h, other)))

module _ (bag : Bag) where
  -- the names of a bag
  pub clash_is_fault : (f : Fault) → IsClashAmong (IsPayloadName bag) f → IsClashFault bag f
  unfolding IsOfCompleteness CompletenessHolds
  clash_is_fault f (name, (least, is, clashes)) = grind arith

  pub fault_is_clash : (f : Fault) → IsClashFault bag f → IsClashAmong (IsPayloadName bag) f
  unfolding IsOfCompleteness CompletenessHolds
  fault_is_clash f (h, code) = grind (arith, made_of)

  pub clash_faults_listed : (names : List (List ℕ)) → ((path : List ℕ) → Contains names path ↔ IsPayloadName bag path)
      → (faults : List Fault)
      → IsListOf fault_cmp (IsClashAmong (Contains names)) faults → IsListOf fault_cmp (IsClashFault bag) faults
  clash_faults_listed names are faults list =
      same_members fault_cmp (IsClashAmong (Contains names)) (IsClashFault bag) faults
      (λ f h. clash_is_fault f (same_clash (Contains names) (IsPayloadName bag) f (λ p. (are p).0) (λ p. (are p).1) h))
      (λ f h. same_clash (IsPayloadName bag) (Contains names) f (λ p. (are p).1) (λ p. (are p).0) (fault_is_clash f h))
      list

-- names and the same names in order are one set
pub same_names : (P : List ℕ → Type 0) (names sorted : List (List ℕ)) → ((path : List ℕ) → Contains names path ↔ P path)
    → IsListOf text_cmp (Contains names) sorted
    → (path : List ℕ) → Contains sorted path ↔ P path
same_names P names sorted are list path =
    (λ c. (are path).0 ((list.members path).0 c), λ p. (list.members path).1 ((are path).1 p))
