-- The least name of a class, and the names of an ascending list up to a place.
use Rattle.bag_stages.proofs.Common.{inl, inr, ◌≡◌, ◌≢◌, ◌<◌, ℕ, List, ◌∷◌, Bool, refl, ap, sym, ◌∙◌, subst, Contains}
use Rattle.bag_stages.proofs.Common.{bytes_eq, bytes_eq-Decides, filter, IsStrictlySortedBy-filter, nat_list_cmp_total}
use Rattle.bag_stages.proofs.Common.{ordering_reverse, Ordering, Less, Equal, Greater, text_cmp, contains_cases}
use Rattle.bag_stages.proofs.Common.{contains_first, member_has, kept, passed, not_both, not_less_than_itself}
use Rattle.bag_stages.proofs.Common.{exact_texts, IsAscii, chars, encode_utf8_all, get_or_default, nfc_of, IsLeastAlike}
use Rattle.std.specs.List.Sorted.{IsStrictlySortedBy}
use Rattle.unicode_normalization.specs.Forms.{nfc, Nfc}
use Rattle.unicode_normalization.proofs.FormsLemmas.{normalize-ascii}
use Rattle.std.proofs.lemmas.Str.{chars-IsAscii, encodes-IsAscii}

one_by : (o : Ordering) (p q : List ℕ) → text_cmp p q ≡ o → text_cmp p q ≢ Less → text_cmp q p ≢ Less → p ≡ q
one_by Less p q is not other = absurd (not is)
one_by Equal p q is not other = exact_texts p q is
one_by Greater p q is not other = absurd (other (nat_list_cmp_total.antisymm q p ∙ ap ordering_reverse is))

-- a class has one least name
pub one_least : (IsName : List ℕ → Type 0) (text a b : List ℕ) → IsLeastAlike IsName text a → IsLeastAlike IsName text b
    → a ≡ b
one_least IsName text a b h k = one_by (text_cmp a b) a b refl (k.lowest a h.name h.alike) (h.lowest b k.name k.alike)

-- the same names in other words
pub same_least : (P Q : List ℕ → Type 0) (text least : List ℕ) → ((name : List ℕ) → P name → Q name)
    → ((name : List ℕ) → Q name → P name)
    → IsLeastAlike P text least → IsLeastAlike Q text least
same_least P Q text least to from h =
    record { name = to least h.name; alike = h.alike; lowest = λ other q. h.lowest other (from other q) }

-- those of some names that have a form
abbrev pub of_form : List ℕ → List (List ℕ) → List (List ℕ)
of_form form names = filter (λ name. bytes_eq (nfc_of name) form) names

-- the first of ascending names that has the form of a text is the least of its class
pub first_is_least : (names : List (List ℕ)) (text first : List ℕ) (rest : List (List ℕ))
    → IsStrictlySortedBy text_cmp names → of_form (nfc_of text) names ≡ first ∷ rest
    → IsLeastAlike (Contains names) text first
unfolding IsStrictlySortedBy
first_is_least names text first rest s e =
    let has_form : List ℕ → Bool = λ name. bytes_eq (nfc_of name) (nfc_of text) in
    let ascending : IsStrictlySortedBy text_cmp (first ∷ rest) =
    subst (IsStrictlySortedBy text_cmp) e (IsStrictlySortedBy-filter text_cmp has_form names s) in
    let own = kept has_form names first (subst (λ ns. Contains ns first) (sym e) (contains_first first rest)) in
    record {
      name = own.1;
      alike = sym ((bytes_eq-Decides (nfc_of first) (nfc_of text)).0 own.0);
      lowest = λ other c alike.
          elim (contains_cases first rest other
          (subst (λ ns. Contains ns other) e
          (passed has_form names other ((bytes_eq-Decides (nfc_of other) (nfc_of text)).1 (sym alike)) c))) [
            | inl same ↦ not_less_than_itself nat_list_cmp_total other first (sym same)
            | inr d ↦ not_both nat_list_cmp_total first other (member_has _ rest other ascending.0 d)
          ];
    }

-- an ASCII text is its own NFC form
pub ascii_itself : (text : List ℕ) → IsAscii text → nfc_of text ≡ text
ascii_itself text ascii =
    let same : chars text ≡ text = chars-IsAscii text ascii in
    let form : nfc text ≡ text =
    normalize-ascii Nfc text (λ k d lt. subst (λ b. b < 128) (get_or_default text k 0 d lt) (ascii k)) in
    ap encode_utf8_all (ap nfc same ∙ form) ∙ encodes-IsAscii text ascii
