-- The digests that a bag's manifests give for a file that was checked are those of the bytes that were read.
use Rattle.bag_checked.proofs.Common.{◌≡◌, ◌≢◌, ◌∙◌, ◌++◌, ◌∷◌, ℕ, Bool, true, false, cond, List, [], None, Some}
use Rattle.bag_checked.proofs.Common.{Contains, arith, refl, sym, ap, subst, map, bytes_eq, codes, bytes_eq-Decides}
use Rattle.bag_checked.proofs.Common.{contains_mapped, contains_nothing, mapped_contains, Alg, Bag, File, file}
use Rattle.bag_checked.proofs.Common.{files_of, IsBag, Kind}
use Rattle.hex.specs.Hex.{encode_lower}
use Rattle.std.proofs.lemmas.List.{append_cancel_right}
use Rattle.std.proofs.lemmas.List.Elements.{All-from_recursion}
use Rattle.bag_text.proofs.ListOf.{each_from_members}
use Rattle.bag_text.specs.Order.{IsListOf}
use Rattle.bag_read.proofs.ManifestEntries.{entry_named, entry_of_path_once}
use Rattle.bag_read.proofs.PickedOut.{is_picked, picked}
use Rattle.bag_entries.specs.declared.entry.ManifestEntry.{ManifestEntry}
use Rattle.std.specs.Option.{option_map}
use Rattle.bag_facts.proofs.Mapped.{kept}
use Rattle.bag_facts.specs.Facts.{rules_in}
use Rattle.bag_facts.specs.FactsOfBag.{IsFactsOf}
use Rattle.bag_faults.specs.FaultOrder.{fault_cmp}
use Rattle.bag_facts.specs.Given.{AreTagFiles}
use Rattle.bag_facts.specs.declared.facts.Facts.{Facts}
use Rattle.bag_report.specs.Valid.{full}
use Rattle.bag_faults.specs.declared.fault.Fault.{Fault}
use Rattle.bag_faults.specs.declared.options.Depth.TheVariants.{Declaration}
use Rattle.bag_stages.proofs.NamesByKind.{entry_kind}
use Rattle.bag_stages.proofs.ValidityFaults.{entry_of_validity, sum_fault, validity_of_entry}
use Rattle.bag_stages.specs.Given.{AreNaming, kind_of}
use Rattle.bag_stages.specs.SumFaults.{IsFaultOfFile, differing, faults_of_bytes, sum_differs}
use Rattle.bag_stages.specs.TagFiles.{Names, lines_in, manifest_of}
use Rattle.bag_stages.specs.ValidityStage.{IsEntryIn, IsOfValidity, expected_and_found}
use Rattle.bag_stages.specs.Expected.{Expected}
use Rattle.bag_tree.proofs.ListingLaw.{listings_are_of_the_bag}
use Rattle.bag_tree.specs.Digest.{digest}
use Rattle.bag_tree.specs.Tree.{TreeState}
use Rattle.bag_tree.specs.declared.listing.FileEntry.{FileEntry}
use Rattle.bag_facts.proofs.Found.{held_at}
use Rattle.bag_checked.specs.Compared.{AreCompared, HasGivenDigests}
use Rattle.bag_checked.specs.Summed.{IsRight, files_to_read, is_to_read, to_read}
use Rattle.bag_tree.specs.Listing.{entry_of_file}

fault_if : (b : Bool) (f g : Fault) → cond b None (Some f) ≡ Some g → f ≡ g
fault_if true f g e = let clash : None ≡ Some g = e in cc
fault_if false f g e = cc

same_alg : (a b : Alg) → Some a ≡ Some b → a ≡ b
same_alg a b e = cc

-- what is expected of a file is given by a manifest, and is the digest of the bytes that were read
module _ (bag : Bag) (e : File) (own : List ℕ) (expected : List Expected) (there : file bag e.0 ≡ Some own)
    (naming : AreNaming bag e.0 (map (λ one. one.alg) expected))
    (faults : IsListOf fault_cmp (IsFaultOfFile bag e.0) (faults_of_bytes e.0 own expected))
    (right : faults_of_bytes e.0 e.1 expected ≡ []) where
  abbrev fault_of : Expected → List ℕ → Fault
  fault_of one content = sum_differs e.0 one (digest one.alg content)

  found_by : (one : Expected) → Contains expected one → (b : Bool)
      → bytes_eq (encode_lower one.digest) (digest one.alg e.1) ≡ b → encode_lower one.digest ≡ digest one.alg e.1
  found_by one c true is = (bytes_eq-Decides (encode_lower one.digest) (digest one.alg e.1)).0 is
  found_by one c false is =
      absurd (contains_nothing (fault_of one e.1)
      (subst (λ (xs : List Fault). Contains xs (fault_of one e.1)) right
      (is_picked (differing e.0 e.1) expected one (fault_of one e.1) c
      (ap (λ b. cond b None (Some (fault_of one e.1))) is))))

  found : (one : Expected) → Contains expected one → encode_lower one.digest ≡ digest one.alg e.1
  found one c = found_by one c (bytes_eq (encode_lower one.digest) (digest one.alg e.1)) refl

  module _ (alg : Alg) (entry : ManifestEntry) (is_entry : IsEntryIn bag (kind_of e.0) alg entry)
      (at : entry.path ≡ e.0) where
    -- where the entry gives another digest than that of the bag's own bytes
    by_fault : entry.digest ≢ digest alg own → entry.digest ≡ digest alg e.1
    by_fault differ =
        let f = sum_fault (kind_of e.0) alg entry own in
        let valid : IsOfValidity bag f =
        entry_of_validity bag f (kind_of e.0, (alg, (entry, is_entry, (own, ap (file bag) at ∙ there, differ, refl)))) in
        let one = picked (differing e.0 own) expected f ((faults.members f).1 (valid, at)) in
        let is : fault_of one.0 own ≡ f =
        fault_if (bytes_eq (encode_lower one.0.digest) (digest one.0.alg own)) (fault_of one.0 own) f one.2 in
        let its : one.0.alg ≡ alg = same_alg one.0.alg alg (ap (λ (x : Fault). x.alg) is) in
        let both : expected_and_found (encode_lower one.0.digest) (digest alg own)
        ≡ expected_and_found entry.digest (digest alg own) =
        ap (λ a. expected_and_found (encode_lower one.0.digest) (digest a own)) (sym its)
        ∙ ap (λ (x : Fault). x.detail) is in
        let given : encode_lower one.0.digest ≡ entry.digest =
        append_cancel_right (encode_lower one.0.digest) entry.digest (codes ":")
        (append_cancel_right (encode_lower one.0.digest ++ codes ":") (entry.digest ++ codes ":") (digest alg own) both)
        in
        sym given ∙ found one.0 one.1 ∙ ap (λ a. digest a e.1) its

    the_entry : (kind : Kind) (a : Alg) (other : ManifestEntry) → IsEntryIn bag kind a other → kind ≡ kind_of e.0
        → a ≡ alg → other.path ≡ e.0 → other ≡ entry
    the_entry kind a other is same its path =
        entry_of_path_once (rules_in bag) (kind_of e.0) alg (lines_in bag (manifest_of (kind_of e.0) alg)) other entry
        (subst (λ b. IsEntryIn bag (kind_of e.0) b other) its (subst (λ k. IsEntryIn bag k a other) same is)) is_entry
        (path ∙ sym at)

    -- it doesn't give that of the bag's own bytes, where another is expected
    no_other : entry.digest ≡ digest alg own → (one : Expected) → Contains expected one → one.alg ≡ alg
        → bytes_eq (encode_lower one.digest) (digest one.alg own) ≡ false → ⊥
    no_other same one c its other =
        let f = fault_of one own in
        let is = (faults.members f).0
        (is_picked (differing e.0 own) expected one f c (ap (λ b. cond b None (Some f)) other)) in
        let v = validity_of_entry bag f is.0 in
        let content = v.1.1.2 in
        let path : v.1.1.0.path ≡ e.0 = sym (ap (λ (x : Fault). x.path) content.3) in
        let a : v.1.0 ≡ alg = sym (same_alg one.alg v.1.0 (ap (λ (x : Fault). x.alg) content.3)) ∙ its in
        let kind : v.0 ≡ kind_of e.0 =
        entry_kind bag v.0 v.1.0 (lines_in bag (manifest_of v.0 v.1.0)) v.1.1.0 v.1.1.1 ∙ ap kind_of path in
        let this : v.1.1.0 ≡ entry = the_entry v.0 v.1.0 v.1.1.0 v.1.1.1 kind a path in
        let bytes : Some content.0 ≡ Some own = sym content.1 ∙ ap (file bag) path ∙ there in
        let own_bytes : content.0 ≡ own = cc in
        content.2
        (ap (λ (x : ManifestEntry). x.digest) this ∙ same ∙ sym (λ i. digest (a i) (own_bytes i)))

    by_naming : entry.digest ≡ digest alg own → (one : Expected) → Contains expected one → one.alg ≡ alg → (b : Bool)
        → bytes_eq (encode_lower one.digest) (digest one.alg own) ≡ b → entry.digest ≡ digest alg e.1
    by_naming same one c its true is =
        same ∙ ap (λ a. digest a own) (sym its)
        ∙ sym ((bytes_eq-Decides (encode_lower one.digest) (digest one.alg own)).0 is)
        ∙ found one c ∙ ap (λ a. digest a e.1) its
    by_naming same one c its false is = absurd (no_other same one c its is)

    given_by : (b : Bool) → bytes_eq entry.digest (digest alg own) ≡ b → entry.digest ≡ digest alg e.1
    given_by true is =
        let same = (bytes_eq-Decides entry.digest (digest alg own)).0 is in
        let named : Names bag (kind_of e.0) alg e.0 =
        subst (Names bag (kind_of e.0) alg) at
        (entry_named (rules_in bag) (kind_of e.0) alg (lines_in bag (manifest_of (kind_of e.0) alg)) entry is_entry) in
        let one = contains_mapped (λ (x : Expected). x.alg) expected alg ((naming alg).1 named) in
        by_naming same one.0 one.1 one.2 (bytes_eq (encode_lower one.0.digest) (digest one.0.alg own)) refl
    given_by false is =
        by_fault (λ same. let clash : false ≡ true =
        sym is ∙ (bytes_eq-Decides entry.digest (digest alg own)).1 same in cc)

  pub given_digests : HasGivenDigests bag e
  given_digests alg entry is_entry at =
      given_by alg entry is_entry at (bytes_eq entry.digest (digest alg own)) refl

read_by : (b : Bool) (e : File) (with_payload : Bool) (files : List File) → is_to_read with_payload e.0 ≡ b
    → to_read with_payload (map entry_of_file files) ≡ map entry_of_file (files_to_read with_payload files)
    → to_read with_payload (map entry_of_file (e ∷ files)) ≡ map entry_of_file (files_to_read with_payload (e ∷ files))
read_by true e with_payload files is others = grind arith
read_by false e with_payload files is others = grind arith

read_listed : (with_payload : Bool) (files : List File)
    → to_read with_payload (map entry_of_file files) ≡ map entry_of_file (files_to_read with_payload files)
read_listed with_payload [] = refl
read_listed with_payload (e ∷ files) =
    read_by (is_to_read with_payload e.0) e with_payload files refl (read_listed with_payload files)

-- files that were checked, of each bag with what is known
module _ (facts : Facts) (bag : Bag) (of : IsFactsOf bag facts) (with_payload : Bool) where
  -- the listed files that are read are those of the bag
  pub read_are : to_read with_payload facts.listing.files ≡ map entry_of_file (files_to_read with_payload (files_of bag))
  read_are =
      ap (to_read with_payload) (listings_are_of_the_bag bag facts.listing of.ordered of.listing)
      ∙ read_listed with_payload (files_of bag)

  module _ (deep : facts.options.depth ≢ Declaration) (files : List File)
      (listed : map entry_of_file files ≡ to_read with_payload facts.listing.files) (right : (e : File) → Contains files e → IsRight facts e)
    where
      its_digests : (e : File) → Contains files e → HasGivenDigests bag e
      its_digests e c =
          let m =
          contains_mapped entry_of_file (files_to_read with_payload (files_of bag)) (entry_of_file e)
          (subst (λ (xs : List FileEntry). Contains xs (entry_of_file e)) (listed ∙ read_are)
          (mapped_contains entry_of_file files e c)) in
          let there : file bag e.0 ≡ Some m.0.1 =
          ap (file bag) (sym (ap (λ (x : FileEntry). x.path) m.2))
          ∙ held_at bag.files m.0.0 m.0.1
          (kept (λ (x : File). is_to_read with_payload x.0) (files_of bag) m.0 m.1).1 in
          let r = right e c in
          given_digests bag e m.0.1 r.expected there (r.given.algs bag of deep) (r.given.faults bag of deep m.0.1 there)
          r.right

      pub are_compared : (old new : TreeState) → IsBag bag
          → option_map (λ listing. listing.files) new.listed ≡ Some facts.listing.files
          → (tags : List File) → AreTagFiles full bag tags → new.gave ≡ (old.gave ++ tags) ++ files
          → AreCompared bag with_payload files old new
      are_compared old new is_bag was tags tags_are gave = record {
        is_bag = is_bag;
        listed = was ∙ ap Some (listings_are_of_the_bag bag facts.listing of.ordered of.listing);
        tags = tags;
        tags_are = tags_are;
        gave = gave;
        entries = listed ∙ read_are;
        right =
            All-from_recursion (HasGivenDigests bag) files
            (each_from_members (HasGivenDigests bag) files its_digests);
      }
