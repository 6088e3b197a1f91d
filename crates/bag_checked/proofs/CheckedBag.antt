-- What a bag that was checked is, and what the manifests say that are made of it.
use Rattle.bag_checked.proofs.Common.{Bool, ◌≡◌, ◌≢◌, ◌<◌, ◌∷◌, ◌++◌, ℕ, List, [], true, false, IsTrue, Option, None}
use Rattle.bag_checked.proofs.Common.{Some, map, filter, Contains, contains_mapped, mapped_contains, text_cmp, arith}
use Rattle.bag_checked.proofs.Common.{refl, sym, ap, subst, ◌∙◌, inl, inr, All-contains, contains_nothing}
use Rattle.bag_checked.proofs.Common.{contains_first, contains_behind, Alg, Bag, file, files_of, payload}
use Rattle.bag_checked.proofs.Common.{is_payload_path, Payload, Tag, Kind, tag_path, Manifest, File, rules_in}
use Rattle.std.proofs.lemmas.List.Elements.{All-from_recursion}
use Rattle.std.proofs.lemmas.List.Kept.{IsStrictlySortedBy-filter}
use Rattle.std.proofs.lemmas.Simd.{map-map}
use Rattle.std.specs.List.Sorted.{IsStrictlySortedBy}
use Rattle.std.specs.Option.{option_map}
use Rattle.std.specs.Prelude.{All}
use Rattle.std.specs.Str.{chars, is_utf8}
use Rattle.bag_text.specs.Code.{stage}
use Rattle.bag_text.specs.Lines.{lines_of_file}
use Rattle.bag_text.specs.declared.code.Code.{Code}
use Rattle.bag_text.specs.declared.code.Code.TheVariants.{PayloadSumDiffers, TagSumDiffers}
use Rattle.bag_text.specs.declared.rules.Rules.{Rules}
use Rattle.bag_text.proofs.ListOf.{each_from_members, nothing_listed}
use Rattle.bag_facts.proofs.Mapped.{kept, passed}
use Rattle.bag_facts.specs.FactsOfBag.{IsFactsOf}
use Rattle.bag_faults.specs.FaultOrder.{fault_cmp}
use Rattle.bag_facts.specs.Given.{GivesTagFiles}
use Rattle.bag_facts.specs.TagReader.{OpensAll}
use Rattle.bag_facts.specs.Wanted.{IsWanted, paths_of}
use Rattle.bag_facts.specs.declared.facts.Facts.{Facts}
use Rattle.bag_faults.specs.declared.fault.Fault.{Fault}
use Rattle.bag_faults.specs.declared.options.Depth.TheVariants.{Declaration}
use Rattle.bag_faults.specs.declared.options.Options.{Options}
use Rattle.bag_report.specs.Report.{Is, IsReported}
use Rattle.bag_report.proofs.Asked.{asked_at_full}
use Rattle.bag_report.proofs.Found.{is_of_validity}
use Rattle.bag_report.specs.Valid.{HasNoFault, IsFaultOf, full}
use Rattle.bag_checked.proofs.Common.{cond, not, ◌||◌}
use Rattle.bag_stages.proofs.NamesByKind.{entry_kind}
use Rattle.bag_stages.specs.Given.{kind_of}
use Rattle.bag_stages.specs.MetadataStage.{bag_info_txt}
use Rattle.bag_stages.specs.TagFiles.{lines_in, lines_or_none, manifest_of}
use Rattle.bag_stages.proofs.CompletenessFaults.{completeness_of_stage_six}
use Rattle.bag_stages.proofs.DeclarationFaults.{declaration_of_stage_one}
use Rattle.bag_stages.proofs.FetchFaults.{fetch_of_stage_four}
use Rattle.bag_stages.proofs.ManifestFaults.{manifests_of_stage_five}
use Rattle.bag_stages.proofs.MetadataFaults.{metadata_of_stage_three}
use Rattle.bag_stages.proofs.PartFaults.{parts_of_stage_two}
use Rattle.bag_stages.proofs.ValidityFaults.{validity_of_stage_seven}
use Rattle.bag_stages.specs.ValidityStage.{Differs, IsOfValidity, ValidityHolds}
use Rattle.bag_tags.specs.Entry.{NewEntry, manifest_text_by}
use Rattle.bag_tags.specs.Summed.{manifests_by, summed_entry, entries_of}
use Rattle.bag_tree.specs.Digest.{digest}
use Rattle.bag_tree.specs.DigestsOf.{sum_at}
use Rattle.bag_tree.specs.Bag.{IsBag}
use Rattle.bag_tree.specs.Tree.{Keeps, TreeState}
use Rattle.bag_tree.specs.declared.listing.FileEntry.{FileEntry}
use Rattle.bag_tree.specs.declared.listing.Listing.{Listing}
use Rattle.bag_facts.proofs.Found.{held_at, listed, same_files}
use Rattle.bag_checked.proofs.GivenDigests.{are_compared, read_are}
use Rattle.bag_checked.specs.Compared.{AreCompared}
use Rattle.bag_checked.specs.FirstFaults.{HasNoneBefore, IsFaultBy, IsFirst, IsFoundFirst, IsLookedFor}
use Rattle.bag_checked.specs.NewManifests.{AreOfSameBytes, HasChecked, HasCheckedAll, IsRefusedFor, OpensRead}
use Rattle.bag_checked.specs.NewManifests.{manifests_for}
use Rattle.bag_checked.specs.Summed.{AreGivenAndChecked, AreSummedBy, IsDifferenceIn, IsFaultyFile, IsRight}
use Rattle.bag_checked.specs.Summed.{files_to_read}
use Rattle.bag_tree.specs.Listing.{entry_of_file}
use Rattle.bag_checked.specs.Summed.{is_to_read, payload_of, to_read}
use Rattle.bag_checked.specs.FirstFaults.{IsDamage}
use Rattle.bag_checked.specs.declared.checked.Unchecked.{Unchecked}
use Rattle.bag_checked.specs.declared.checked.Unchecked.TheVariants.{Faulty, Stopped}
use Rattle.bag_tags.specs.declared.summed.SummedFile.{SummedFile}

-- a path that a tag manifest names isn't of the payload, and is read
tag_by : (b with_payload : Bool) → ◌≡◌ {A = Kind} (cond b Payload Tag) Tag → (with_payload || not b) ≡ true
tag_by true with_payload same = let clash : ◌≡◌ {A = Kind} Payload Tag = same in cc
tag_by false true same = refl
tag_by false false same = refl

tag_is_read : (with_payload : Bool) (path : List ℕ) → kind_of path ≡ Tag → is_to_read with_payload path ≡ true
tag_is_read with_payload path same = tag_by (is_payload_path path) with_payload same

-- the paths of the listed files that are read are those that are to be read
pub paths_to_read : (with_payload : Bool) (files : List FileEntry)
    → filter (is_to_read with_payload) (paths_of files) ≡ paths_of (to_read with_payload files)
paths_to_read with_payload [] = refl
paths_to_read with_payload (e ∷ files) = one (is_to_read with_payload e.path) (paths_to_read with_payload files)
  where
    one : (b : Bool) → filter (is_to_read with_payload) (paths_of files) ≡ paths_of (to_read with_payload files)
        → cond b (e.path ∷ filter (is_to_read with_payload) (paths_of files)) (filter (is_to_read with_payload) (paths_of files))
        ≡ paths_of (cond b (e ∷ to_read with_payload files) (to_read with_payload files))
    one true rest = ap (λ xs. e.path ∷ xs) rest
    one false rest = rest

-- a file of the payload is read only with the payload
with_its_payload : (b with_payload : Bool) → ◌≡◌ {A = Kind} Payload (cond b Payload Tag)
    → (with_payload || not b) ≡ true → with_payload ≡ true
with_its_payload true true same read = refl
with_its_payload true false same read = read
with_its_payload false with_payload same read = let clash : ◌≡◌ {A = Kind} Payload Tag = same in cc

module _ (facts : Facts) (bag : Bag) (of : IsFactsOf bag facts) (options : facts.options ≡ full) where
  has_it : (f : Fault) → IsFaultBy facts bag f → IsFaultOf bag f
  has_it f = subst (λ (o : Options). IsReported (record { bag = bag; profile = None; options = o }) f) options

  found_it : (f : Fault) → IsFaultOf bag f → IsFaultBy facts bag f
  found_it f = subst (λ (o : Options). IsReported (record { bag = bag; profile = None; options = o }) f) (sym options)

  -- so the first fault that is found is the bag's
  pub refused_first : (e : Unchecked) → IsFoundFirst facts e → IsRefusedFor bag e
  refused_first (Stopped stop) h = tt
  refused_first (Faulty fault) h = let first = (h bag of).1 in record {
    member = has_it fault first.member;
    none_less = λ f is less. first.none_less f (found_it f is) less;
  }

  -- and the first that is looked for
  pub first_early : (with_payload : Bool) (fault : Fault) → stage fault.code < 7 → IsFirst (IsFaultBy facts bag) fault
      → IsFirst (IsLookedFor bag with_payload) fault
  first_early with_payload fault early first = record {
    member = (
      has_it fault first.member,
      λ damage. let seventh : stage fault.code ≡ 7 = ap stage damage in absurd (omega (arith, seventh, early)),
    );
    none_less = λ f is less. first.none_less f (found_it f is.0) less;
  }

  pub deep : facts.options.depth ≢ Declaration
  deep e = let at : full.depth ≡ Declaration = sym (ap (λ (o : Options). o.depth) options) ∙ e in cc

  tag_read : (with_payload : Bool) (f : Fault) → Differs bag f Tag → is_to_read with_payload f.path ≡ true
  tag_read with_payload f d =
      tag_is_read with_payload f.path
      (ap kind_of d.3.path_is ∙ sym (entry_kind bag Tag d.0 (lines_in bag (manifest_of Tag d.0)) d.1 d.4))

  module _ (none : HasNoneBefore facts 7) where
    pub none_early : (f : Fault) → IsFaultOf bag f → stage f.code < 7 → ⊥
    none_early f has before = none bag of f (found_it f has) before

    -- so each fault is of a digest that differs
    module _ (f : Fault) where
      below : (k : ℕ) → stage f.code ≡ k → k < 7 → IsFaultOf bag f → ⊥
      below k at lt has = none_early f has (subst (λ n. n < 7) (sym at) lt)

      of_validity : Is bag None f → IsFaultOf bag f → IsOfValidity bag f
      unfolding Is
      of_validity (inl h) has = absurd (below 1 (declaration_of_stage_one bag f h) (omega arith) has)
      of_validity (inr (inl h)) has = absurd (below 2 (parts_of_stage_two bag f h) (omega arith) has)
      of_validity (inr (inr (inl h))) has = absurd (below 3 (metadata_of_stage_three bag f h) (omega arith) has)
      of_validity (inr (inr (inr (inl h)))) has = absurd (below 4 (fetch_of_stage_four bag f h) (omega arith) has)
      of_validity (inr (inr (inr (inr (inl h))))) has =
          absurd (below 5 (manifests_of_stage_five bag f h) (omega arith) has)
      of_validity (inr (inr (inr (inr (inr (inl h)))))) has =
          absurd (below 6 (completeness_of_stage_six bag f h) (omega arith) has)
      of_validity (inr (inr (inr (inr (inr (inr (inl h))))))) has = h
      of_validity (inr (inr (inr (inr (inr (inr (inr h))))))) has = absurd h

    -- the first digest that differs is the first fault that is looked for
    module _ (with_payload : Bool) where
      abbrev files_read : List FileEntry
      files_read = to_read with_payload facts.listing.files

      ascend : IsStrictlySortedBy text_cmp (paths_of files_read)
      ascend =
          subst (IsStrictlySortedBy text_cmp) (paths_to_read with_payload facts.listing.files)
          (IsStrictlySortedBy-filter text_cmp (is_to_read with_payload) (paths_of facts.listing.files)
          of.ordered.ascending)

      its_payload : (f : Fault) → IsOfValidity bag f → is_to_read with_payload f.path ≡ true → IsDamage f
          → with_payload ≡ true
      unfolding IsOfValidity ValidityHolds
      its_payload f differs read damage =
          let d : Differs bag f Payload = subst (ValidityHolds bag f) damage differs in
          with_its_payload (is_payload_path f.path) with_payload
          (entry_kind bag Payload d.0 (lines_in bag (manifest_of Payload d.0)) d.1 d.4 ∙ ap kind_of (sym d.3.path_is))
          read

      is_read : (path : List ℕ) → Contains (paths_of files_read) path → is_to_read with_payload path ≡ true
      is_read path c = let m = contains_mapped (λ (e : FileEntry). e.path) files_read path c in
          subst (λ p. is_to_read with_payload p ≡ true) m.2
          (kept (λ (e : FileEntry). is_to_read with_payload e.path) facts.listing.files m.0 m.1).0

      one_of : (e : File) → file bag e.0 ≡ Some e.1 → is_to_read with_payload e.0 ≡ true
          → Contains (paths_of files_read) e.0
      one_of e there read =
          let own = files_to_read with_payload (files_of bag) in
          subst (λ (xs : List FileEntry). Contains (paths_of xs) e.0) (sym (read_are facts bag of with_payload))
          (mapped_contains (λ (x : FileEntry). x.path) (map entry_of_file own) (entry_of_file e)
          (mapped_contains entry_of_file own e
          (passed (λ (x : File). is_to_read with_payload x.0) (files_of bag) e read (listed bag.files e.0 e.1 there))))

      at_file : (f : Fault) (kind : Kind) → Differs bag f kind → is_to_read with_payload f.path ≡ true
          → Contains (paths_of files_read) f.path
      at_file f kind (alg, entry, content, at, given, there, other) read =
          subst (Contains (paths_of files_read)) (sym at.path_is)
          (one_of (entry.path, content) there (ap (is_to_read with_payload) (sym at.path_is) ∙ read))

      where_it_is : (f : Fault) (code : Code) → f.code ≡ code → ValidityHolds bag f code
          → (IsDamage f → with_payload ≡ true) → Contains (paths_of files_read) f.path
      unfolding ValidityHolds
      where_it_is f PayloadSumDiffers is d looked = at_file f Payload d (ap (λ b. is_to_read b f.path) (looked is))
      where_it_is f TagSumDiffers is d looked = at_file f Tag d (tag_read with_payload f d)
      where_it_is f _ is d looked = absurd d

      difference : (f : Fault) → IsLookedFor bag with_payload f → IsDifferenceIn bag files_read f
      unfolding IsOfValidity
      difference f is = let h = of_validity f is.0.0 is.0 in (h, where_it_is f f.code refl h is.1)

      pub first_file : (state : TreeState) → IsTrue state.honest → state.bag ≡ bag → (fault : Fault)
          → IsFaultyFile facts files_read state (Faulty fault) → IsFirst (IsLookedFor bag with_payload) fault
      first_file state honest same fault h =
          let first : IsFirst (IsDifferenceIn bag files_read) fault =
          subst (λ b. IsFirst (IsDifferenceIn b files_read) fault) same
          (h honest (subst (λ b. IsFactsOf b facts) (sym same) of) deep ascend) in
          let differs = first.member.0 in record {
            member = (
              (
                is_of_validity bag None fault differs,
                asked_at_full full fault.code refl (validity_of_stage_seven bag fault differs),
              ),
              its_payload fault differs (is_read fault.path first.member.1),
            );
            none_less = λ f is less. first.none_less f (difference f is) less;
          }

    -- the files that were read have the digests that manifests give
    module _ (with_payload : Bool)
        (right : (e : File) → Contains (files_of bag) e → is_to_read with_payload e.0 ≡ true → IsRight facts e)
        (f : Fault) where
      one_file : (kind : Kind) → Differs bag f kind → IsOfValidity bag f → is_to_read with_payload f.path ≡ true → ⊥
      one_file kind (alg, entry, content, at, given, there, other) h read =
          let e : File = (entry.path, content) in
          let r =
          right e (listed bag.files entry.path content there)
          (ap (is_to_read with_payload) (sym at.path_is) ∙ read) in
          let list = r.given.faults bag of deep content there in
          contains_nothing f (subst (λ (xs : List Fault). Contains xs f) r.right ((list.members f).1 (h, at.path_is)))

      differing : (code : Code) → ValidityHolds bag f code → IsOfValidity bag f
          → is_to_read with_payload f.path ≡ true → ⊥
      unfolding ValidityHolds
      differing PayloadSumDiffers d h read = one_file Payload d h read
      differing TagSumDiffers d h read = one_file Tag d h read
      differing _ d h read = d

      no_fault : IsFaultOf bag f → is_to_read with_payload f.path ≡ true → ⊥
      unfolding IsOfValidity
      no_fault has read = let h = of_validity f has.0 has in differing f.code h h read

      -- a tag manifest names no payload, and all other files were read
      tag_differs : Differs bag f Tag → IsOfValidity bag f → ⊥
      tag_differs d h = one_file Tag d h (tag_read with_payload f d)

      damage_by : (code : Code) → f.code ≡ code → ValidityHolds bag f code → IsOfValidity bag f → IsDamage f
      unfolding ValidityHolds
      damage_by PayloadSumDiffers is d h = is
      damage_by TagSumDiffers is d h = absurd (tag_differs d h)
      damage_by _ is d h = absurd d

      is_damage : IsFaultOf bag f → IsDamage f
      unfolding IsOfValidity
      is_damage has = let h = of_validity f has.0 has in damage_by f.code refl h h

-- a bag was read and checked
module _ (facts : Facts) (algs : List Alg) (old mid new : TreeState) (options : facts.options ≡ full)
    (of : IsTrue old.honest → IsFactsOf old.bag facts) (keeps : Keeps old mid) where
  pub stages_refuse : (e : Unchecked) → IsFoundFirst facts e → IsTrue old.honest → IsRefusedFor old.bag e
  stages_refuse e h honest = refused_first facts old.bag (of honest) options e h

  module _ (none : HasNoneBefore facts 7) where
    pub first_looked_for : (with_payload : Bool) (fault : Fault)
        → IsFaultyFile facts (to_read with_payload facts.listing.files) mid (Faulty fault) → IsTrue old.honest
        → IsFirst (IsLookedFor old.bag with_payload) fault
    first_looked_for with_payload fault h honest =
        first_file facts old.bag (of honest) options none with_payload mid (keeps.honest ∙ honest) keeps.bag fault h

    pub files_refuse : (e : Unchecked) → IsFaultyFile facts (to_read true facts.listing.files) mid e
        → IsTrue old.honest → IsRefusedFor old.bag e
    files_refuse (Stopped stop) h honest = tt
    files_refuse (Faulty fault) h honest = let first = first_looked_for true fault h honest in record {
      member = first.member.0;
      none_less = λ f is less. first.none_less f (is, λ damage. refl) less;
    }

    pub has_checked : (with_payload : Bool) (summed : List SummedFile) (info : List ℕ)
        → ((bag : Bag) × IsBag bag × IsFactsOf bag facts × GivesTagFiles full bag facts.listing.files old mid)
        → OpensAll full facts.listing.files old mid
        → AreGivenAndChecked mid new facts (to_read with_payload facts.listing.files) algs summed info
        → HasChecked facts with_payload algs old new summed info
    has_checked with_payload summed info (bag, is_bag, of_it, first) (tags, wanted, opened) all = record {
      options = options;
      bag = bag;
      is_bag = is_bag;
      of_it = of_it;
      listed = ap (option_map (λ (l : Listing). l.files)) all.once.listed ∙ first.listed;
      given = first.tags;
      given_are = first.tags_are;
      none = none;
      tags = tags;
      ascend = wanted.ascending;
      wanted =
          All-from_recursion (IsWanted full) tags
          (each_from_members (IsWanted full) tags (λ path c. ((wanted.members path).0 c).0));
      opened = all.once.opened ∙ ap (λ xs. xs ++ paths_of (to_read with_payload facts.listing.files)) opened;
      of_bag = of;
      checked = record {
        files = all.are.files;
        info_of = all.are.info_of;
        listed = all.are.listed;
        right = all.are.right;
        sums = all.are.sums;
        honest = λ h. subst (λ bag. All (λ (e : File). file bag e.0 ≡ Some e.1) all.are.files) keeps.bag
            (all.are.honest (keeps.honest ∙ h));
      };
      gave = all.gave ∙ ap (λ before. before ++ all.are.files) first.gave;
    }

-- what a manifest says of the payload among files with their digests
module _ (algs : List Alg) (alg : Alg) (has : Contains algs alg) where
  abbrev says : List SummedFile → List NewEntry
  says summed = map (summed_entry alg) (filter (λ one. is_payload_path one.path) summed)

  one_more : (b : Bool) (e : File) (one : SummedFile) (files : List File) (summed : List SummedFile)
      → is_payload_path e.0 ≡ b → one.path ≡ e.0 → sum_at one.sums alg ≡ Some (digest alg e.1)
      → says summed ≡ entries_of alg (payload_of files)
      → says (one ∷ summed) ≡ entries_of alg (payload_of (e ∷ files))
  one_more true e one files summed is path sum others = grind arith
  one_more false e one files summed is path sum others = grind arith

  pub entries_are : (files : List File) (summed : List SummedFile) → AreSummedBy algs files summed
      → says summed ≡ entries_of alg (payload_of files)
  entries_are [] [] h = refl
  entries_are (e ∷ files) (one ∷ summed) (s, rest) =
      one_more (is_payload_path e.0) e one files summed refl s.path (s.sums alg has) (entries_are files summed rest)
  entries_are _ _ h = absurd h

module _ (algs : List Alg) (files : List File) (summed : List SummedFile) (are : AreSummedBy algs files summed) where
  pub manifests_some : (rules : Rules) (some : List Alg) → ((alg : Alg) → Contains some alg → Contains algs alg)
      → manifests_by rules Payload some (filter (λ one. is_payload_path one.path) summed)
      ≡ manifests_for rules some (payload_of files)
  manifests_some rules [] has = refl
  manifests_some rules (alg ∷ some) has =
      let entries = entries_are algs alg (has alg (contains_first alg some)) files summed are in
      let others = manifests_some rules some (λ other c. has other (contains_behind alg some other c)) in
      λ i. (tag_path (Manifest Payload alg), manifest_text_by rules (entries i)) ∷ others i

  pub manifests_are : (rules : Rules) → manifests_by rules Payload algs (filter (λ one. is_payload_path one.path) summed)
      ≡ manifests_for rules algs (payload_of files)
  manifests_are rules = manifests_some rules algs (λ alg has. has)

no_bytes : lines_of_file [] ≡ []
unfolding is_utf8 chars
no_bytes = refl

pub all_files : (files : List File) → files_to_read true files ≡ files
all_files [] = refl
all_files (e ∷ files) = ap (λ others. e ∷ others) (all_files files)

-- of a bag that was checked
module _ (facts : Facts) (with_payload : Bool) (algs : List Alg) (old new : TreeState) (summed : List SummedFile)
    (info : List ℕ) (h : HasChecked facts with_payload algs old new summed info) where
  -- over any tree they were compared
  pub compared : AreCompared h.bag with_payload h.checked.files old new
  compared =
      are_compared facts h.bag h.of_it with_payload (deep facts h.bag h.of_it h.options) h.checked.files
      h.checked.listed (λ e c. All-contains (IsRight facts) h.checked.files e h.checked.right c) old new h.is_bag
      h.listed h.given h.given_are h.gave

module _ (facts : Facts) (with_payload : Bool) (algs : List Alg) (old new : TreeState) (summed : List SummedFile)
    (info : List ℕ) (h : HasChecked facts with_payload algs old new summed info) (honest : IsTrue old.honest) where
  of : IsFactsOf old.bag facts
  of = h.of_bag honest

  files_are : h.checked.files ≡ files_to_read with_payload (files_of old.bag)
  files_are =
      same_files old.bag h.checked.files (files_to_read with_payload (files_of old.bag)) (h.checked.listed
      ∙ read_are facts old.bag of with_payload)
      (λ e c. All-contains (λ (x : File). file old.bag x.0 ≡ Some x.1) h.checked.files e (h.checked.honest honest) c)
      (λ e c. held_at old.bag.files e.0 e.1
      (kept (λ (x : File). is_to_read with_payload x.0) (files_of old.bag) e c).1)

  right : (e : File) → Contains (files_of old.bag) e → is_to_read with_payload e.0 ≡ true → IsRight facts e
  right e c read =
      All-contains (IsRight facts) h.checked.files e h.checked.right
      (subst (λ (xs : List File). Contains xs e) (sym files_are)
      (passed (λ (x : File). is_to_read with_payload x.0) (files_of old.bag) e read c))

  -- each fault is damage of the payload
  pub damaged : (f : Fault) → IsFaultOf old.bag f → IsDamage f
  damaged f has = is_damage facts old.bag of h.options h.none with_payload right f has

  -- and there is none where the payload was read
  pub none_at_all : with_payload ≡ true → HasNoFault old.bag
  none_at_all all =
      nothing_listed fault_cmp (IsFaultOf old.bag)
      (λ f has. no_fault facts old.bag of h.options h.none with_payload right f has
      (ap (λ b. is_to_read b f.path) all))

  pub opens_read : OpensRead with_payload old new
  opens_read = (
    h.tags,
    h.ascend,
    h.wanted,
    h.opened
        ∙ ap (λ xs. (old.openings ++ h.tags) ++ xs)
        (ap paths_of (read_are facts old.bag of with_payload)
        ∙ map-map (λ (e : FileEntry). e.path) entry_of_file (files_to_read with_payload (files_of old.bag))),
  )

  -- the lines of bag-info.txt are those of the bag's
  lines_there : Contains h.checked.files (bag_info_txt, info) → lines_of_file info ≡ lines_in old.bag bag_info_txt
  lines_there c =
      sym (ap lines_or_none
      (All-contains (λ (x : File). file old.bag x.0 ≡ Some x.1) h.checked.files (bag_info_txt, info)
      (h.checked.honest honest) c))

  no_lines : (o : Option (List ℕ)) → file old.bag bag_info_txt ≡ o → info ≡ []
      → ((e : File) → Contains h.checked.files e → e.0 ≢ bag_info_txt)
      → lines_of_file info ≡ lines_in old.bag bag_info_txt
  no_lines None at empty none = ap lines_of_file empty ∙ no_bytes ∙ sym (ap lines_or_none at)
  no_lines (Some content) at empty none =
      let e : File = (bag_info_txt, content) in
      absurd (none e
      (subst (λ (xs : List File). Contains xs e) (sym files_are)
      (passed (λ (x : File). is_to_read with_payload x.0) (files_of old.bag) e (tag_is_read with_payload bag_info_txt refl)
      (listed old.bag.files bag_info_txt content at))) refl)

  pub info_lines : lines_of_file info ≡ lines_in old.bag bag_info_txt
  info_lines = elim h.checked.info_of [
    | inl c ↦ lines_there c
    | inr n ↦ no_lines (file old.bag bag_info_txt) refl n.0 n.1
  ]

  pub sums_are : AreSummedBy algs (files_to_read with_payload (files_of old.bag)) summed
  sums_are = subst (λ files. AreSummedBy algs files summed) files_are h.checked.sums

-- so it is where all was read
module _ (rules : Rules) (algs : List Alg) (old new : TreeState) (summed : List SummedFile)
    (all : HasCheckedAll rules algs old new summed) where
  -- the manifests are those of its payload, whatever tree it is
  pub same_bytes : (made : List File)
      → made ≡ manifests_by rules Payload algs (filter (λ one. is_payload_path one.path) summed)
      → AreOfSameBytes algs old new made
  same_bytes made is = record {
    bag = all.2.bag;
    files = all.2.checked.files;
    compared = compared all.0 true algs old new summed all.1 all.2;
    made_of = is
        ∙ manifests_are algs all.2.checked.files summed all.2.checked.sums rules
        ∙ ap (λ by. manifests_for by algs (payload_of all.2.checked.files)) (all.3 all.2.bag all.2.of_it);
  }

  module _ (honest : IsTrue old.honest) where
    pub of_the_bag : (made : List File)
        → made ≡ manifests_by rules Payload algs (filter (λ one. is_payload_path one.path) summed)
        → made ≡ manifests_for (rules_in old.bag) algs (payload old.bag)
    of_the_bag made is =
        is ∙ manifests_are algs (files_to_read true (files_of old.bag)) summed
        (sums_are all.0 true algs old new summed all.1 all.2 honest) rules
        ∙ ap (λ files. manifests_for rules algs (payload_of files)) (all_files (files_of old.bag))
        ∙ ap (λ by. manifests_for by algs (payload old.bag)) (all.3 old.bag (all.2.of_bag honest))

    pub has_no_fault : HasNoFault old.bag
    has_no_fault = none_at_all all.0 true algs old new summed all.1 all.2 honest refl

    pub opens_all : OpensRead true old new
    opens_all = opens_read all.0 true algs old new summed all.1 all.2 honest
