-- What the listed files of a bag tell of what keeps it from being renewed.
use Rattle.bag_changes.proofs.Common.{◌≡◌, ◌≢◌, ◌⊎◌, ◌∷◌, ◌&&◌, ◌||◌, ◌∙◌, ℕ, List, [], Bool, true, false, not, map}
use Rattle.bag_changes.proofs.Common.{Option, None, Some, refl, sym, ap, subst, inl, inr, arith, Contains}
use Rattle.bag_changes.proofs.Common.{any_from, from_any, false≢true, cond, contains_behind, contains_cases}
use Rattle.bag_changes.proofs.Common.{contains_first, contains_nothing}
use Rattle.bag_changes.proofs.Common.{list_any, and_parts, tag_path, algs, Payload}
use Rattle.bag_changes.proofs.Common.{Fetch, bytes_eq-Decides}
use Rattle.bag_changes.proofs.Common.{is_payload_path}
use Rattle.bag_changes.proofs.Common.{Bag, HasFile, files_of, has_file, keeps, new_algs, new_rules, Renewal}
use Rattle.bag_changes.proofs.Common.{begun_file, bytes_eq, is_kept_alg, IsTrue, rules_in}
use Rattle.std.specs.Option.{option_map}
use Rattle.std.specs.Prelude.{MatchOption, find}
use Rattle.std.proofs.lemmas.Simd.{map-map}
use Rattle.bag_text.specs.declared.rules.Rules.{Rules}
use Rattle.bag_text.specs.declared.rules.Rules.TheVariants.{V10, V097}
use Rattle.bag_facts.proofs.ListedFiles.{file_listed}
use Rattle.bag_facts.specs.FactsOfBag.{IfBagRead, IsByV097, IsFactsOf}
use Rattle.bag_facts.specs.declared.facts.Facts.{Facts}
use Rattle.bag_stages.specs.TagFiles.{named_in}
use Rattle.bag_tags.specs.Writable as by_rules
use Rattle.bag_tree.proofs.ListingLaw.{listings_are_of_the_bag}
use Rattle.bag_tree.specs.Tree.{NothingFailed, TreeState}
use Rattle.bag_tree.specs.declared.listing.FileEntry.{FileEntry}
use Rattle.bag_facts.proofs.ListedPaths.{same_truth}
use Rattle.bag_changes.specs.Obstacles.{CanNameFiles, IsFreeToChange, IsHindered, IsNamedAsTag, IsObstacle}
use Rattle.bag_changes.specs.Obstacles.{first_outdated, first_unlisted, first_unnameable, has_percent, is_named_by_kept}
use Rattle.bag_changes.specs.Obstacles.{is_unlisted, is_unnameable, is_unnameable_by, keeps_naming, paths_of}
use Rattle.bag_renewed.specs.Renewed.{is_v10, writes_payload_manifest}
use Rattle.bag_changes.specs.Telling.{AreStillListed, IsNamedByKept, IsToBeNamed}
use Rattle.bag_tree.specs.Listing.{entry_of_file}
use Rattle.bag_changes.specs.declared.fault.RenewFault.{RenewFault}
use Rattle.bag_changes.specs.declared.fault.RenewFault.TheVariants as why

module _ {A : Type 0} (p : A → Bool) where
  found_by : (b : Bool) (y : A) (xs : List A) (x : A) → p y ≡ b
      → (find p xs ≡ Some x → Contains xs x × (p x ≡ true))
      → cond b (Some y) (find p xs) ≡ Some x → Contains (y ∷ xs) x × (p x ≡ true)
  found_by true y xs x is behind e =
      let same : y ≡ x = cc in (subst (Contains (y ∷ xs)) same (contains_first y xs), ap p (sym same) ∙ is)
  found_by false y xs x is behind e =
      let found = behind e in (contains_behind y xs x found.0, found.1)

  -- what is found stands in the list, and passes
  pub found_passes : (xs : List A) (x : A) → find p xs ≡ Some x → Contains xs x × (p x ≡ true)
  found_passes [] x e = let clash : None ≡ Some x = e in cc
  found_passes (y ∷ xs) x e = found_by (p y) y xs x refl (found_passes xs x) e

  none_by : (b : Bool) (y : A) (xs : List A) (x : A) → p y ≡ b → (find p xs ≡ None → Contains xs x → p x ≡ false)
      → cond b (Some y) (find p xs) ≡ None → Contains (y ∷ xs) x → p x ≡ false
  none_by true y xs x is behind e c = let clash : Some y ≡ None = e in cc
  none_by false y xs x is behind e c =
      elim (contains_cases y xs x c) [
        | inl same ↦ ap p (sym same) ∙ is
        | inr d ↦ behind e d
      ]

  -- where nothing is found, nothing passes
  pub none_passes : (xs : List A) (x : A) → find p xs ≡ None → Contains xs x → p x ≡ false
  none_passes [] x e c = absurd (contains_nothing x c)
  none_passes (y ∷ xs) x e c = none_by (p y) y xs x refl (none_passes xs x) e c

-- what is found in a mapped list is mapped
found_mapped : {A B : Type 0} (f : A → B) (test : B → Bool) (xs : List A)
    → option_map f (find (λ x. test (f x)) xs) ≡ find test (map f xs)
found_mapped f test [] = refl
found_mapped f test (x ∷ xs) = grind (arith, find, found_mapped f test xs)

first_false : (a b : Bool) → (a || b) ≡ false → a ≡ false
first_false true b e = e
first_false false b e = refl

last_false : (a k b : Bool) → k ≡ false → (a || (not k && b)) ≡ false → b ≡ false
last_false true k b old e = grind arith
last_false false true b old e = grind arith
last_false false false b old e = e

-- what isn't one of two things together, while it is the first
not_false : (a b : Bool) → a ≡ true → (a && not b) ≡ false → b ≡ true
not_false true true is e = refl
not_false true false is e = absurd (false≢true (sym e))
not_false false b is e = absurd (false≢true is)

module _ (bag : Bag) (facts : Facts) (of : IsFactsOf bag facts) where
  abbrev files : List FileEntry
  files = facts.listing.files

  abbrev path : FileEntry → List ℕ
  path entry = entry.path

  pub paths_are : map path files ≡ paths_of bag
  paths_are =
      ap (map path) (listings_are_of_the_bag bag facts.listing of.ordered of.listing)
      ∙ map-map path entry_of_file (files_of bag)

  -- the first of the listed files that can't be named is the first of the bag
  pub first_where : (test : List ℕ → Bool) (listed : List FileEntry) (found : Option FileEntry) → listed ≡ files
      → found ≡ find (λ entry. test entry.path) listed → option_map path found ≡ find test (paths_of bag)
  first_where test listed found same first =
      ap (option_map path) first
      ∙ ap (λ entries. option_map path (find (λ entry. test entry.path) entries)) same
      ∙ found_mapped path test files
      ∙ ap (find test) paths_are

  pub first_is : (renewal : Renewal) (rules : Rules) (is_kept : Bool) (listed : List FileEntry) (found : Option FileEntry)
      → rules ≡ new_rules bag renewal → is_kept ≡ keeps bag renewal → listed ≡ files
      → found ≡ find (λ entry. is_unnameable_by rules is_kept entry.path) listed
      → option_map path found ≡ first_unnameable bag renewal
  first_is renewal rules is_kept listed found by is same first =
      first_where (is_unnameable_by rules is_kept) listed found same first
      ∙ (λ i. find (is_unnameable_by (by i) (is i)) (paths_of bag))

  -- so is the first that no kept manifest names
  pub first_unlisted_is : (renewal : Renewal) (found : Option FileEntry)
      → writes_payload_manifest bag renewal ≡ false
      → found ≡ find (λ entry. is_unlisted bag renewal entry.path) files
      → option_map path found ≡ first_unlisted bag renewal
  first_unlisted_is renewal found none first =
      first_where (is_unlisted bag renewal) files found refl first
      ∙ sym (ap (λ b. cond b None (find (is_unlisted bag renewal) (paths_of bag))) none)

  path_there : (name : List ℕ) → HasFile bag name → Contains (map path files) name
  path_there name has = file_listed bag files name of.listing.files has

  among_paths : (name : List ℕ) → HasFile bag name → Contains (paths_of bag) name
  among_paths name has = subst (λ paths. Contains paths name) paths_are (path_there name has)

  module _ (renewal : Renewal) where
    -- where none is found, each path can be named
    module _ (none : first_unnameable bag renewal ≡ None) (name : List ℕ) (has : HasFile bag name) where
      abbrev unnamed : Bool
      unnamed = by_rules.is_unnameable (new_rules bag renewal) name

      none_found : (unnamed || (not (keeps bag renewal) && has_percent name)) ≡ false
      none_found = none_passes (is_unnameable bag renewal) (paths_of bag) name none (among_paths name has)

      pub nameable : unnamed ≡ false
      nameable = first_false unnamed (not (keeps bag renewal) && has_percent name) none_found

      pub unescaped : keeps bag renewal ≡ false → has_percent name ≡ false
      unescaped old = last_false unnamed (keeps bag renewal) (has_percent name) old none_found

    -- where none is unlisted, each file of the payload is named by a manifest that is kept
    module _ (none : find (λ entry. is_unlisted bag renewal entry.path) files ≡ None) (name : List ℕ)
        (to_name : IsToBeNamed bag Payload name) where
      some_names : list_any (keeps_naming bag renewal name) algs ≡ true
      unfolding is_named_by_kept is_unlisted
      some_names =
          not_false (is_payload_path name) (is_named_by_kept bag renewal name) to_name.1
          (none_passes (is_unlisted bag renewal) (paths_of bag) name
          (sym (first_where (is_unlisted bag renewal) files None refl (sym none))) (among_paths name to_name.0))

      pub named_by_kept : IsNamedByKept bag renewal name
      unfolding keeps_naming
      named_by_kept =
          let one = from_any (keeps_naming bag renewal name) algs some_names in
          let both = and_parts (is_kept_alg bag renewal one.0) (list_any (bytes_eq name) (named_in bag Payload one.0)) one.2
          in
          let path = from_any (bytes_eq name) (named_in bag Payload one.0) both.1 in (
            one.0,
            both.0,
            subst (Contains (named_in bag Payload one.0)) (sym ((bytes_eq-Decides name path.0).0 path.2)) path.1,
          )

-- what holds where nothing was found
pub at_none : {A : Type 0} (P : Type 0) (Q : A → Type 0) (found : Option A) → found ≡ None → MatchOption found P Q → P
at_none P Q None e h = h
at_none P Q (Some x) e h = let clash : Some x ≡ None = e in cc

fetch_by : (k h : Bool) → (not k && h) ≡ false → (k ≡ true) ⊎ (h ≡ false)
fetch_by true h e = inl refl
fetch_by false h e = inr e

kept_or_not : (k : Bool) (P : Type 0) → (k ≡ false → P) → (k ≡ true) ⊎ P
kept_or_not true P old = inl refl
kept_or_not false P old = inr (old refl)

-- what is asked can be done, where none of these keeps from it
pub free_to_change : (bag : Bag) (renewal : Renewal)
    → (not (keeps bag renewal) && has_file bag (tag_path Fetch)) ≡ false → new_algs bag renewal ≢ []
    → ¬ (IsNamedAsTag bag begun_file) → first_outdated bag ≡ None → IsFreeToChange bag renewal
free_to_change bag renewal fetch some_alg own none_outdated = record {
  fetch = fetch_by (keeps bag renewal) (has_file bag (tag_path Fetch)) fetch;
  some_alg = some_alg;
  own = own;
  none_outdated = none_outdated;
}

-- and the files can be named
pub can_name_files : (bag : Bag) (renewal : Renewal) (facts : Facts) → IsFactsOf bag facts
    → first_unnameable bag renewal ≡ None → AreStillListed bag renewal → CanNameFiles bag renewal
can_name_files bag renewal facts of none listed = record {
  nameable = nameable bag facts of renewal none;
  spelled = kept_or_not (keeps bag renewal) _ (λ old name has. unescaped bag facts of renewal none name has old);
  listed = listed;
}

-- ---- an obstacle was found

module _ (facts : Facts) (renewal : Renewal) (old new : TreeState) where
  -- by what is known of the bag
  pub hindered_by_facts : (fault : RenewFault) → IfBagRead facts (λ bag. IsObstacle bag renewal fault)
      → NothingFailed old new → IsHindered facts renewal old new fault
  hindered_by_facts (why.InTheWay n) h calm = λ honest of deep. h old.bag of deep
  hindered_by_facts (why.ReadStopped s) h calm = λ bag of deep. absurd (h bag of deep)
  hindered_by_facts why.Memory h calm = inr calm
  hindered_by_facts fault h calm = h

-- ---- what the rules, or a manifest that is written, tell of what is listed

v10_or_v097 : (rules : Rules) (b : Bool) → (is_v10 rules || b) ≡ true → (rules ≡ V10) ⊎ (b ≡ true)
v10_or_v097 V10 b is = inl refl
v10_or_v097 V097 b is = inr is

neither_of : (rules : Rules) (b : Bool) → (is_v10 rules || b) ≡ false → (rules ≡ V097) × (b ≡ false)
neither_of V10 b is = absurd (false≢true (sym is))
neither_of V097 b is = (refl, is)

module _ (bag : Bag) (renewal : Renewal) where
  pub all_listed : (is_v10 (rules_in bag) || writes_payload_manifest bag renewal) ≡ true → AreStillListed bag renewal
  all_listed is = elim (v10_or_v097 (rules_in bag) (writes_payload_manifest bag renewal) is) [
    | inl v10 ↦ inl v10
    | inr writes ↦ inr (inl writes)
  ]

  -- else it is of 0.97, and none is written
  pub none_names_all : (is_v10 (rules_in bag) || writes_payload_manifest bag renewal) ≡ false
      → IsByV097 bag × (writes_payload_manifest bag renewal ≡ false)
  none_names_all is = neither_of (rules_in bag) (writes_payload_manifest bag renewal) is

-- it is named just where it is in the list of names
pub names_by : (name : List ℕ) (names : List (List ℕ)) (b : Bool) → (IsTrue b → Contains names name)
    → (Contains names name → IsTrue b) → b ≡ list_any (bytes_eq name) names
names_by name names b to back =
    same_truth b (list_any (bytes_eq name) names)
    (λ is. any_from (bytes_eq name) names name (to is) ((bytes_eq-Decides name name).1 refl))
    (λ some.
    let one = from_any (bytes_eq name) names some in
    back (subst (Contains names) (sym ((bytes_eq-Decides name one.0).0 one.2)) one.1))
