-- The faults of a bag's parts.
use Rattle.bag_stages.proofs.Common.{◌≡◌, ◌≢◌, ◌⊎◌, ◌↔◌, inl, inr, ◌++◌, ◌∷◌, ℕ, List, [], None, Some, Bool, true}
use Rattle.bag_stages.proofs.Common.{false, refl, sym, ap, ◌∙◌, subst, arith, is_some, codes, append_assoc, Contains}
use Rattle.bag_stages.proofs.Common.{IsTrue, if◌then◌else◌, IsStrictlySortedBy, is_utf8}
use Rattle.bag_stages.proofs.Common.{All-contains, is_path, Less, text_cmp, IsNoText, alg_named, stage, IsListOf}
use Rattle.bag_stages.proofs.Common.{IsOnly, Alg, Code, NoPayloadFolder, NoPayloadManifest, AlgorithmUnsupported}
use Rattle.bag_stages.proofs.Common.{NotUtf8, nothing_listed, one_listed, joined, same_members, Bag, file, has_folder}
use Rattle.bag_stages.proofs.Common.{IsOrdered, FileEntry, manifest_name, prefix, tag_path, Kind, Payload, Tag, TagName}
use Rattle.bag_stages.proofs.Common.{same_alg, name_named, paths_differ, of_path, Fault, fault_cmp, rules_in, IsFactsOf}
use Rattle.bag_stages.proofs.Common.{IsSaidOfTagFile, name_of, path_of, text_test, SaysOfTagFile, paths_of, Facts}
use Rattle.bag_stages.proofs.Common.{TagFacts, file_listed, listed_file, contains_mapped, AreTagsOf}
use Rattle.bag_stages.proofs.Common.{ListsPayloadManifest, HasTextless, IsUnsupported, IsFileFault, IsFaultAmong}
use Rattle.bag_stages.proofs.Common.{FaultsAreOfStage, of_bag, HasManifest, HasNoText}
use Rattle.bag_read.specs.declared.tag_name.TagName.TheVariants as tag_name
use Rattle.bag_faults.specs.declared.options.Depth.TheVariants.{Declaration}
use Rattle.bag_facts.specs.declared.tag_facts.TagFacts.TheVariants as facts
use Rattle.bag_stages.specs.PartsStage.{PartHolds, IsOfParts}
use Rattle.bag_stages.proofs.FaultFields.{has_fields, made_of}
use Rattle.bag_stages.proofs.HasLists.{false_unless}
use Rattle.bag_stages.proofs.InFile.{less_by_path}

-- the first bytes of the names of manifests
abbrev first_byte : List ℕ → ℕ
first_byte [] = 0
first_byte (x ∷ xs) = x

-- two names of manifests that are one are of one algorithm's text
pub one_alg : (k l : Kind) (a b : List ℕ) → manifest_name k a ≡ manifest_name l b → a ≡ b
one_alg Payload Payload a b e =
    same_alg Payload (manifest_name Payload a) (a ++ codes ".txt") a b (append_assoc (prefix Payload) a (codes ".txt"))
    refl e
one_alg Tag Tag a b e =
    same_alg Tag (manifest_name Tag a) (a ++ codes ".txt") a b (append_assoc (prefix Tag) a (codes ".txt")) refl e
one_alg Payload Tag a b e = let clash : ◌≡◌ {A = ℕ} 109 116 = ap first_byte e in absurd (omega arith)
one_alg Tag Payload a b e = let clash : ◌≡◌ {A = ℕ} 116 109 = ap first_byte e in absurd (omega arith)

-- a manifest whose algorithm is supported is no unsupported one
pub supported_alone : (path text alg : List ℕ) (kind : Kind) (a : Alg) → path ≡ manifest_name kind text
    → alg_named text ≡ Some a → IsUnsupported path alg → ⊥
supported_alone path text alg kind a at named h = grind (arith, one_alg)

-- a listed file's path isn't empty
pub path_not_empty : (files : List FileEntry) (path : List ℕ) → IsOrdered files → Contains (paths_of files) path
    → path ≢ []
path_not_empty files path ordered c =
    grind (
      arith,
      contains_mapped (λ (entry : FileEntry). entry.path) files path c,
      All-contains (λ (entry : FileEntry). IsTrue (is_path entry.path)) files,
      ordered.paths,
    )

empty_first : (path : List ℕ) → path ≢ [] → text_cmp [] path ≡ Less
empty_first [] not = absurd (not refl)
empty_first (x ∷ path) not = refl

pub file_fault_stage : (bag : Bag) (f : Fault) → IsFileFault bag f → stage f.code ≡ 2
file_fault_stage bag f h = grind arith

-- a manifest whose algorithm isn't supported has that fault alone
pub only_unsupported : (bag : Bag) (path alg : List ℕ) → IsUnsupported path alg
    → IsOnly (λ f. (f.path ≡ path) × IsFileFault bag f) (Some (of_path AlgorithmUnsupported path None alg))
only_unsupported bag path alg unsupported = grind (arith, made_of, one_alg, supported_alone, name_named)

abbrev pub textless_fault : List ℕ → Fault
textless_fault path = of_path NotUtf8 path None []

-- a tag file that isn't UTF-8 has that fault alone
module _ (bag : Bag) (path : List ℕ) (supported : (alg : List ℕ) → ¬ (IsUnsupported path alg)) where
  same_textless : (y : Fault) → y.path ≡ path → IsFileFault bag y → y ≡ textless_fault path
  same_textless y at (inl k) = absurd (supported y.detail (subst (λ p. IsUnsupported p y.detail) at k.2))
  same_textless y at (inr (e, fields, k)) = grind (arith, made_of)

  pub only_textless : HasNoText bag path
      → IsOnly (λ f. (f.path ≡ path) × IsFileFault bag f) (Some (textless_fault path))
  only_textless text = (
    (refl, inr (refl, has_fields (textless_fault path) NotUtf8 path None 0 [] refl, text)),
    λ y k.
        same_textless y k.0 k.1,
  )

  -- a file that is neither has none
  pub no_file_fault : ¬ (HasNoText bag path) → IsOnly (λ f. (f.path ≡ path) × IsFileFault bag f) None
  no_file_fault text f (at, inl h) = supported f.detail (subst (λ p. IsUnsupported p f.detail) at h.2)
  no_file_fault text f (at, inr h) = text (subst (HasNoText bag) at h.2)

-- faults of files are ordered as their files
pub less_by_file : (bag : Bag) (x y : Fault) → IsFileFault bag x → IsFileFault bag y → text_cmp x.path y.path ≡ Less
    → fault_cmp x y ≡ Less
less_by_file bag x y a b less = less_by_path x y (file_fault_stage bag x a ∙ sym (file_fault_stage bag y b)) less

-- a part that is missing where the test fails
if_missing : (x : Fault) (has : Bool) → IsListOf fault_cmp (λ f. (f ≡ x) × (has ≡ false)) (if has then [] else x ∷ [])
if_missing x true = nothing_listed fault_cmp _ (λ f h. let clash : true ≡ false = h.1 in cc)
if_missing x false = one_listed fault_cmp _ x (refl, refl) (λ f h. h.0)

abbrev pub IsMissing : Bool → Bool → Fault → Type 0
IsMissing has_data has_manifest f = ((f ≡ of_bag NoPayloadFolder) × (has_data ≡ false))
    ⊎ ((f ≡ of_bag NoPayloadManifest) × (has_manifest ≡ false))

abbrev pub missing : Bool → Bool → List Fault
missing has_data has_manifest =
    (if has_data then [] else of_bag NoPayloadFolder ∷ [])
    ++ (if has_manifest then [] else of_bag NoPayloadManifest ∷ [])

missing_listed : (has_data has_manifest : Bool)
    → IsListOf fault_cmp (IsMissing has_data has_manifest) (missing has_data has_manifest)
missing_listed has_data has_manifest =
    joined fault_cmp _ _ _ _ (if_missing (of_bag NoPayloadFolder) has_data)
    (if_missing (of_bag NoPayloadManifest) has_manifest) (λ x y a b. rw (a.0, b.0) refl)

missing_at : (has_data has_manifest : Bool) (f : Fault) → IsMissing has_data has_manifest f
    → (f.path ≡ []) × (stage f.code ≡ 2)
missing_at has_data has_manifest f h = grind arith

-- what the codes of the stage say
module _ (bag : Bag) where
  -- the bytes at a path aren't UTF-8
  abbrev pub HasOther : List ℕ → Type 0
  HasOther path = (bytes : List ℕ) × (file bag path ≡ Some bytes) × IsNoText bytes

  -- the four faults of the stage
  abbrev pub OfFolder : Fault → Type 0
  OfFolder f = (has_folder bag (codes "data") ≡ false) × (f ≡ of_bag NoPayloadFolder)

  abbrev pub OfPayload : Fault → Type 0
  OfPayload f = ((alg : List ℕ) → ¬ (HasManifest bag Payload alg)) × (f ≡ of_bag NoPayloadManifest)

  abbrev pub OfKind : Kind → Fault → Type 0
  OfKind kind f =
      (alg : List ℕ) × HasManifest bag kind alg
      × ((alg_named alg ≡ None) × (f ≡ of_path AlgorithmUnsupported (manifest_name kind alg) None alg))

  abbrev pub OfName : TagName → Fault → Type 0
  OfName name f = ((name ≢ tag_name.Declaration) × HasOther (tag_path name)) × (f ≡ textless_fault (tag_path name))

  abbrev pub OfPart : Fault → Type 0
  OfPart f = OfFolder f ⊎ (OfPayload f ⊎ (((kind : Kind) × OfKind kind f) ⊎ ((name : TagName) × OfName name f)))

  pub to_part : (f : Fault) → OfPart f → IsOfParts bag f
  unfolding IsOfParts PartHolds
  to_part f h = grind (arith, has_fields)

  from_code : (f : Fault) (c : Code) → f.code ≡ c → PartHolds bag f c → OfPart f
  unfolding PartHolds
  from_code f NotUtf8 e (at, ((name, other, here), text)) = grind (arith, made_of)
  from_code f c e h = grind (arith, made_of)

  pub from_part : (f : Fault) → IsOfParts bag f → OfPart f
  unfolding IsOfParts
  from_part f h = from_code f f.code refl h

  holds_stage : (f : Fault) (c : Code) → PartHolds bag f c → stage c ≡ 2
  unfolding PartHolds
  holds_stage f NotUtf8 h = refl
  holds_stage f c h = grind arith

pub parts_of_stage_two : FaultsAreOfStage 2 IsOfParts
unfolding IsOfParts
parts_of_stage_two bag f h = holds_stage bag f f.code h

-- facts read for more than the declaration know each tag file of the bag
pub tags_known : (bag : Bag) (all : Facts) → IsFactsOf bag all → all.options.depth ≢ Declaration
    → AreTagsOf bag all.tags
tags_known bag all h deep = record {
  there = λ tag has.
      let at =
      contains_mapped path_of all.tags (tag_path tag)
      ((h.tags.members (tag_path tag)).1 ((tag, refl, inr deep), has))
      in (at.0, at.1, paths_differ (name_of at.0) tag at.2);
  said = h.said;
}

-- what is known of the tag files tells which of them isn't UTF-8
text_told : (bag : Bag) (tag : TagFacts) (bytes : List ℕ) → SaysOfTagFile (rules_in bag) bytes tag
    → (text_test tag ≡ Some false) ↔ ((name_of tag ≢ tag_name.Declaration) × (is_utf8 bytes ≡ false))
text_told bag (facts.Declaration d) bytes says = (λ e. cc, λ h. absurd (h.0 refl))
text_told bag tag bytes says = grind arith

pub textless_known : (bag : Bag) (tags : List TagFacts) (tag : TagName) (path : List ℕ) → AreTagsOf bag tags
    → tag_path tag ≡ path → HasTextless tags tag ↔ HasNoText bag path
textless_known bag tags tag path known at = (
  λ h. grind (arith, known.said h.0 h.1, text_told bag h.0),
  λ h.
      let found = known.there tag (rw at (ap is_some h.1.1)) in
      let said : IsSaidOfTagFile bag found.0 = known.said found.0 found.1 in
      let both : Some said.0 ≡ Some h.1.0 =
      sym (subst (λ p. file bag p ≡ Some said.0) (ap tag_path found.2 ∙ at) said.1) ∙ h.1.1 in
      let one : said.0 ≡ h.1.0 = cc in (
        found.0,
        found.1,
        found.2,
        (text_told bag found.0 said.0 said.2).1
            ((λ e. h.0.1 (paths_differ h.0.0 tag (h.0.2 ∙ sym at) ∙ sym found.2 ∙ e)), ap is_utf8 one ∙ h.1.2),
      ),
)

-- the stage as the facts tell it: the missing parts, and the faults of files
module _ (bag : Bag) (all : Facts) (has_manifest : Bool) (known : IsFactsOf bag all)
    (found : has_manifest ≡ true → ListsPayloadManifest all.listing.files)
    (tells : ListsPayloadManifest all.listing.files → has_manifest ≡ true) where
  abbrev files : List FileEntry
  files = all.listing.files

  abbrev IsPart : Fault → Type 0
  IsPart f = IsMissing all.listing.has_data has_manifest f ⊎ IsFaultAmong bag (paths_of files) f

  part_is : (f : Fault) → IsPart f → OfPart bag f
  part_is f (inl (inl (is, lacks))) = inl (sym known.listing.has_data ∙ lacks, is)
  part_is f (inl (inr (is, lacks))) =
      inr (inl (
        (λ alg m. let clash : true
            ≡ false = sym (tells (alg, m.0, file_listed bag files (manifest_name Payload alg) known.listing.files m.1))
            ∙ lacks in cc),
        is,
      ))
  part_is f (inr (c, inl (e, at, (kind, text, path, none)))) =
      grind (arith, made_of, listed_file bag all.listing.files f.path known.listing.files c)
  part_is f (inr (c, inr (e, at, ((name, other, here), text)))) = grind (arith, made_of)

  is_part : (f : Fault) → OfPart bag f → IsPart f
  is_part f (inl (lacks, is)) = inl (inl (is, known.listing.has_data ∙ lacks))
  is_part f (inr (inl (none, is))) =
      inl (inr (
        is,
        false_unless has_manifest (λ e.
            let m =
            found e in none m.0 (m.1, listed_file bag files (manifest_name Payload m.0) known.listing.files m.2)),
      ))
  is_part f (inr (inr (inl (kind, (alg, has, (none, is)))))) =
      grind (arith, has_fields, file_listed bag all.listing.files (manifest_name kind alg) known.listing.files has.1)
  is_part f (inr (inr (inr (name, ((other, text), is))))) =
      grind (
        arith,
        has_fields,
        file_listed bag all.listing.files (tag_path name) known.listing.files (ap is_some text.1),
      )

  pub parts_listed : (of_files : List Fault) → all.options.depth ≢ Declaration
      → (AreTagsOf bag all.tags → IsStrictlySortedBy text_cmp (paths_of files)
      → IsListOf fault_cmp (IsFaultAmong bag (paths_of files)) of_files)
      → IsListOf fault_cmp (IsOfParts bag) (missing all.listing.has_data has_manifest ++ of_files)
  parts_listed of_files deep list =
      same_members fault_cmp _ _ (missing all.listing.has_data has_manifest ++ of_files)
      (λ f h. to_part bag f (part_is f h)) (λ f h. is_part f (from_part bag f h))
      (joined fault_cmp (IsMissing all.listing.has_data has_manifest) (IsFaultAmong bag (paths_of files))
      (missing all.listing.has_data has_manifest) of_files
      (missing_listed all.listing.has_data has_manifest) (list (tags_known bag all known deep) known.ordered.ascending)
      (λ x y a b. let at = missing_at all.listing.has_data has_manifest x a in
      less_by_path x y (at.1 ∙ sym (file_fault_stage bag y b.1))
      (rw at.0 (empty_first y.path (path_not_empty files y.path known.ordered b.0)))))
