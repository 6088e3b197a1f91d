-- The faults of manifests.
use Rattle.bag_stages.proofs.Common.{◌≡◌, ◌≢◌, ◌↔◌, inl, inr, ◌++◌, ℕ, List, [], Some, true, false, refl, sym, ap, ◌∙◌}
use Rattle.bag_stages.proofs.Common.{subst, arith, map, if◌then◌else◌, on, is_utf8, Less, text_cmp, IsNoText, stage}
use Rattle.bag_stages.proofs.Common.{IsListOf, Alg, Code, NotUtf8, PayloadManifestNotListed, nothing_listed, joined}
use Rattle.bag_stages.proofs.Common.{same_members, Bag, HasFile, FileEntry, ManifestFault, IsManifestFault}
use Rattle.bag_stages.proofs.Common.{manifest_name, tag_path, LineFault, Kind, Payload, Tag, ManifestEntry, TagName}
use Rattle.bag_stages.proofs.Common.{line_below, Fault, fault_cmp, rules_in, IsByV10, IsFactsOf, IsSaidOfTagFile}
use Rattle.bag_stages.proofs.Common.{name_of, path_of, AreByPath, AreFilesOfBag, paths_of, Facts, Manifest, TagFacts}
use Rattle.bag_stages.proofs.Common.{file_listed, listed_file, unnamed, IsAskedUnnamed, IsUnnamedFault}
use Rattle.bag_stages.proofs.Common.{IsUnlistedManifest, IsLineFault, IsOfManifest, InManifest}
use Rattle.bag_stages.proofs.Common.{FaultsAreOfStage, in_file, in_line, manifest_of, HasManifest}
use Rattle.bag_stages.proofs.Common.{HasSupported, Names, IsEntryIn}
use Rattle.bag_text.specs.declared.code.Code.TheVariants.{DigestLength, ManifestEscape, ManifestLine, NamedAgain}
use Rattle.bag_text.specs.declared.code.Code.TheVariants.{ManifestOutsidePayload, ManifestUnsafePath}
use Rattle.bag_text.specs.declared.code.Code.TheVariants.{TagmanifestNamesPayload, TagmanifestNamesTagmanifest}
use Rattle.bag_read.specs.declared.tag_name.TagName.TheVariants as tag_name
use Rattle.bag_read.proofs.ManifestCodes.{IsManifestCode, manifest_fault_code, manifest_fault_stage}
use Rattle.bag_read.proofs.ManifestCodes.{manifest_fault_line}
use Rattle.bag_read.proofs.ManifestFaults.{faults_of_no_text}
use Rattle.bag_faults.specs.declared.options.Depth.TheVariants.{Declaration}
use Rattle.bag_facts.specs.declared.tag_facts.TagFacts.TheVariants as facts
use Rattle.bag_stages.specs.ManifestsStage.{ManifestHolds, IsOfManifests}
use Rattle.bag_stages.proofs.FaultFields.{made_of}
use Rattle.bag_stages.proofs.ByItem.{OfSome}
use Rattle.bag_stages.proofs.InFile.{less_by_path, less_of_file, lines_listed, text_tells}
use Rattle.bag_stages.proofs.PartFaults.{tags_known}
use Rattle.bag_stages.proofs.ReadManifest.{has_path, path_named}

-- the same fault of two files is ordered as these
pub less_unnamed : (path : List ℕ) (alg : Alg) (entries : List ManifestEntry) (x y : Fault)
    → IsUnnamedFault path alg entries x → IsUnnamedFault path alg entries y
    → text_cmp x.detail y.detail ≡ Less → fault_cmp x y ≡ Less
less_unnamed path alg entries x y a b less =
    rw (a.0, b.0) (less_of_file path (Some alg) (unnamed path alg x.detail) (unnamed path alg y.detail) refl refl refl
    refl refl less)

fifth : (c : Code) → stage c ≡ 5 → c ≢ NotUtf8
fifth c s e = let two : stage c ≡ 2 = ap stage e in absurd (omega arith)

-- the faults of a manifest's lines
module _ (bag : Bag) (kind : Kind) (alg : Alg) where
  no_text : (bytes : List ℕ) (x : LineFault) → IsManifestFault (rules_in bag) kind alg bytes x → x.code ≡ NotUtf8
      → IsNoText bytes
  no_text bytes x h e =
      let whole : ManifestFault NotUtf8 (rules_in bag) kind alg bytes x =
      subst (λ c. ManifestFault c (rules_in bag) kind alg bytes x) e h in whole.2

  pub line_tells : (bytes : List ℕ) (x : LineFault) → IsManifestFault (rules_in bag) kind alg bytes x
      → (stage x.code ≡ 5) ↔ (is_utf8 bytes ≡ true)
  line_tells bytes x h =
      text_tells 5 (IsManifestFault (rules_in bag) kind alg bytes) x (is_utf8 bytes) (λ e. omega (arith, e))
      (λ text. manifest_fault_stage (rules_in bag) kind alg bytes x h (λ e.
      let clash : true ≡ false = sym text ∙ no_text bytes x h e in cc))
      (faults_of_no_text (rules_in bag) kind alg bytes) h

pub said_lines : (bag : Bag) (m : Manifest) (path : List ℕ) (faults : List Fault)
    → IsSaidOfTagFile bag (facts.Manifest m) → path ≡ manifest_of m.kind m.alg
    → faults ≡ (if m.is_text then map (in_file path (Some m.alg)) m.faults else [])
    → IsListOf fault_cmp (IsLineFault bag m.kind m.alg) faults
said_lines bag m path faults said at is =
    rw (is, at)
    (lines_listed bag (manifest_of m.kind m.alg) (Some m.alg) 5 (IsManifestFault (rules_in bag) m.kind m.alg) is_utf8
    (line_tells bag m.kind m.alg) said.0 m.is_text m.faults said.1 said.2.text said.2.faults)

-- what a tag manifest doesn't name
module _ (bag : Bag) (alg : Alg) where
  -- the tag manifest that is there doesn't name the payload manifest of this text
  abbrev pub Lacks : List ℕ → Type 0
  Lacks other = IsByV10 bag × (HasSupported bag Tag alg × ¬ (Names bag Tag alg (manifest_name Payload other)))

  abbrev pub LacksAt : List ℕ → Fault → Type 0
  LacksAt other f = Lacks other × (f ≡ unnamed (manifest_of Tag alg) alg (manifest_name Payload other))

  pub to_unlisted : (f : Fault) → (other : List ℕ) × HasManifest bag Payload other × LacksAt other f
      → IsUnlistedManifest bag Tag alg f
  to_unlisted f (other, has, ((by, (there, lacks)), is)) = grind arith

  pub from_unlisted : (f : Fault) → IsUnlistedManifest bag Tag alg f
      → (other : List ℕ) × HasManifest bag Payload other × LacksAt other f
  from_unlisted f (by, code, (other, at, there, has, lacks)) = grind (arith, made_of)

  module _ (files : List FileEntry) (all : List ManifestEntry) (listed : AreFilesOfBag bag files)
      (there : HasSupported bag Tag alg)
      (entries : IsListOf (on (λ e. e.path) text_cmp) (IsEntryIn bag Tag alg) all) where
    asked_is : (f : Fault) → IsAskedUnnamed bag (manifest_of Tag alg) alg all (paths_of files) f
        → IsUnlistedManifest bag Tag alg f
    asked_is f (by, (c, (is, ((other, text, at), lacks)))) =
        grind (
          arith,
          to_unlisted,
          listed_file bag files f.detail listed c,
          has_path bag Tag alg all entries (manifest_name Payload other),
        )

    is_asked : (f : Fault) → IsUnlistedManifest bag Tag alg f
        → IsAskedUnnamed bag (manifest_of Tag alg) alg all (paths_of files) f
    is_asked f h = grind (arith, from_unlisted f h, file_listed bag files, path_named bag Tag alg all entries)

  before_lines : (x y : Fault) → IsUnlistedManifest bag Tag alg x → IsLineFault bag Tag alg y → fault_cmp x y ≡ Less
  before_lines x y (by, code, (other, at, has, there, lacks)) b =
      less_of_file (manifest_of Tag alg) (Some alg) x y at.path_is at.alg_is b.0.0 b.0.1 (ap stage code ∙ sym b.1)
      (line_below (in_line x) (in_line y)
      (rw at.line_is (manifest_fault_line (rules_in bag) Tag alg b.0.2.0 (in_line y) b.0.2.2 (fifth y.code b.1))))

-- the faults of a tag manifest: what it doesn't name, and then those of its lines
pub read_tag_manifest : (bag : Bag) (files : List FileEntry) (kind : Kind) (alg : Alg) (path : List ℕ)
    (all : List ManifestEntry) (of_names of_lines : List Fault) → kind ≡ Tag → AreFilesOfBag bag files
    → HasSupported bag kind alg → IsListOf (on (λ e. e.path) text_cmp) (IsEntryIn bag kind alg) all
    → path ≡ manifest_of kind alg
    → (AreByPath all → IsListOf fault_cmp (IsAskedUnnamed bag path alg all (paths_of files)) of_names)
    → IsListOf fault_cmp (IsLineFault bag kind alg) of_lines
    → IsListOf fault_cmp (IsOfManifest bag kind alg) (of_names ++ of_lines)
read_tag_manifest bag files Payload alg path all of_names of_lines is listed there entries at names lines = cc
read_tag_manifest bag files Tag alg path all of_names of_lines is listed there entries at names lines =
    joined fault_cmp (IsUnlistedManifest bag Tag alg) (IsLineFault bag Tag alg) of_names of_lines
    (same_members fault_cmp _ _ of_names (asked_is bag alg files all listed there entries)
    (is_asked bag alg files all listed there entries)
    (rw at at (names entries.ascending))) lines (before_lines bag alg)

-- a payload manifest has the faults of its lines alone
pub read_payload_manifest : (bag : Bag) (kind : Kind) (alg : Alg) (of_lines : List Fault) → kind ≡ Payload
    → IsListOf fault_cmp (IsLineFault bag kind alg) of_lines
    → IsListOf fault_cmp (IsOfManifest bag kind alg) of_lines
read_payload_manifest bag Payload alg of_lines is lines = grind (arith, same_members)
read_payload_manifest bag Tag alg of_lines is lines = cc

-- what the codes of the stage say
module _ (bag : Bag) (f : Fault) where
  line_row : (c : Code) → IsManifestCode c → InManifest bag f → ManifestHolds bag f c
  unfolding ManifestHolds
  line_row PayloadManifestNotListed is h = absurd is
  line_row c is h = grind arith

  line_code : (kind : Kind) (alg : Alg) → IsLineFault bag kind alg f → IsManifestCode f.code
  line_code kind alg h = grind (arith, manifest_fault_code)

  pub of_manifest_is : (kind : Kind) (alg : Alg) → IsOfManifest bag kind alg f → IsOfManifests bag f
  unfolding IsOfManifests ManifestHolds
  of_manifest_is Payload alg (inl h) = absurd h
  of_manifest_is Tag alg (inl (by, code, (other, at, has, there, lacks))) =
      subst (ManifestHolds bag f) (sym code) (alg, other, at, by, has, there, lacks)
  of_manifest_is kind alg (inr h) = line_row f.code (line_code kind alg h) (kind, alg, h.0)

  abbrev pub IsOfSome : Type 0
  IsOfSome = (kind : Kind) × ((alg : Alg) × IsOfManifest bag kind alg f)

  of_line : (c : Code) → f.code ≡ c → stage c ≡ 5 → InManifest bag f → IsOfSome
  of_line c e five (kind, alg, wrong) = (kind, (alg, inr (wrong, ap stage e ∙ five)))

  some_of_holds : (c : Code) → f.code ≡ c → ManifestHolds bag f c → IsOfSome
  unfolding ManifestHolds
  some_of_holds PayloadManifestNotListed e (alg, other, at, by, has, there, lacks) =
      (Tag, (alg, inl (by, e, (other, at, has, there, lacks))))
  some_of_holds ManifestLine e h = of_line ManifestLine e refl h
  some_of_holds DigestLength e h = of_line DigestLength e refl h
  some_of_holds ManifestEscape e h = of_line ManifestEscape e refl h
  some_of_holds ManifestUnsafePath e h = of_line ManifestUnsafePath e refl h
  some_of_holds ManifestOutsidePayload e h = of_line ManifestOutsidePayload e refl h
  some_of_holds TagmanifestNamesPayload e h = of_line TagmanifestNamesPayload e refl h
  some_of_holds TagmanifestNamesTagmanifest e h = of_line TagmanifestNamesTagmanifest e refl h
  some_of_holds NamedAgain e h = of_line NamedAgain e refl h
  some_of_holds other e h = absurd h

  pub of_some : IsOfManifests bag f → IsOfSome
  unfolding IsOfManifests
  of_some h = some_of_holds f.code refl h

  of_manifest_at : (kind : Kind) (alg : Alg) → IsOfManifest bag kind alg f
      → (f.path ≡ manifest_of kind alg) × HasFile bag (manifest_of kind alg) × (stage f.code ≡ 5)
  of_manifest_at Payload alg h = grind arith
  of_manifest_at Tag alg h = grind arith

  -- a fault of the tag file of a name: of a manifest
  abbrev pub IsOfTag : TagName → Type 0
  IsOfTag (tag_name.Manifest kind alg) = IsOfManifest bag kind alg f
  IsOfTag other = ⊥

  of_tag_at : (tag : TagName) → IsOfTag tag → (f.path ≡ tag_path tag) × (stage f.code ≡ 5) × IsOfManifests bag f
  of_tag_at (tag_name.Manifest kind alg) h =
      let at = of_manifest_at kind alg h in (at.0, at.2, of_manifest_is kind alg h)
  of_tag_at other h = absurd h

pub manifests_of_stage_five : FaultsAreOfStage 5 IsOfManifests
manifests_of_stage_five bag f h = let some = of_some bag f h in (of_manifest_at bag f some.0 some.1.0 some.1.1).2

-- the manifests, one after another
module _ (bag : Bag) where
  abbrev pub OfTag : TagFacts → Fault → Type 0
  OfTag tag f = IsOfTag bag f (name_of tag)

  pub less_tags : (s t : TagFacts) (x y : Fault) → OfTag s x → OfTag t y → text_cmp (path_of s) (path_of t) ≡ Less
      → fault_cmp x y ≡ Less
  less_tags s t x y h k less = grind (arith, less_by_path, of_tag_at bag x (name_of s) h, of_tag_at bag y (name_of t) k)

  -- the faults of a tag file that is a manifest
  pub of_manifest_listed : (tag : TagFacts) (m : Manifest) (faults : List Fault) → tag ≡ facts.Manifest m
      → IsSaidOfTagFile bag tag
      → (IsSaidOfTagFile bag (facts.Manifest m) → IsListOf fault_cmp (IsOfManifest bag m.kind m.alg) faults)
      → IsListOf fault_cmp (OfTag tag) faults
  of_manifest_listed tag m faults is said list = grind arith

  -- any other has none
  pub no_manifest_listed : (tag : TagFacts) → ((m : Manifest) → tag ≢ facts.Manifest m)
      → IsListOf fault_cmp (OfTag tag) []
  no_manifest_listed (facts.Manifest m) other = absurd (other m refl)
  no_manifest_listed tag other = nothing_listed fault_cmp _ (λ f h. h)

  -- which are all that facts read for more than the declaration know
  pub all_tags_listed : (all : Facts) (faults : List Fault) → IsFactsOf bag all → all.options.depth ≢ Declaration
      → IsListOf fault_cmp (OfSome OfTag all.tags) faults → IsListOf fault_cmp (IsOfManifests bag) faults
  all_tags_listed all faults h deep list =
      same_members fault_cmp _ _ faults (λ f k. (of_tag_at bag f (name_of k.0) k.2).2)
      (λ f k. let some = of_some bag f k in
      let tag =
      (tags_known bag all h deep).there (tag_name.Manifest some.0 some.1.0)
      (of_manifest_at bag f some.0 some.1.0 some.1.1).1 in
      (tag.0, tag.1, subst (IsOfTag bag f) (sym tag.2) some.1.1))
      list
