-- The names that a renewal needs, and looking for folders that have one.
use Rattle.bag_changes.proofs.Common.{◌≡◌, ◌∷◌, ◌∙◌, ◌++◌, ℕ, List, [], true, false, IsTrue, refl, sym, subst, inl}
use Rattle.bag_changes.proofs.Common.{inr, Alg, algs, Bag, Contains, Declaration, Fetch, Info, Manifest, Payload, Tag}
use Rattle.bag_changes.proofs.Common.{Kind, TagName, begun_file, contains_back, contains_behind, contains_cases}
use Rattle.bag_changes.proofs.Common.{contains_either, contains_first, contains_front, contains_mapped, contains_nothing}
use Rattle.bag_changes.proofs.Common.{has_folder, in_base, is_base_name, manifest_names, mapped_contains, reserved_names}
use Rattle.bag_changes.proofs.Common.{tag_path}
use Rattle.bag_text.proofs.AlgSets.{each_is_listed}
use Rattle.bag_facts.proofs.Reading.{keeps_itself, keeps_on, later_refusal, listing_refusal}
use Rattle.bag_tree.proofs.Calm.{memory_refused, memory_then}
use Rattle.bag_tree.specs.ReplaceCalls.{LooksForFolder}
use Rattle.bag_tree.specs.Stop.{IsRefusalOf}
use Rattle.bag_tree.specs.Tree.{CameFromFile, MayRefuse, NothingFailed, TreeState}
use Rattle.bag_tree.specs.declared.answer.Answer.TheVariants.{Refused}
use Rattle.bag_tree.specs.declared.tree_fault.Stop.{Stop}
use Rattle.bag_tree.specs.declared.tree_fault.TreeFault.{TreeFault}
use Rattle.bag_tree.specs.declared.tree_fault.TreeFault.TheVariants.{Changed, Memory}
use Rattle.std.specs.Prelude.{Err}
use Rattle.bag_changes.proofs.Staying.{IsWritten}
use Rattle.bag_changes.specs.Folders.{IsHinderedBy, IsRefusedLook, OpensNothing}
use Rattle.bag_changes.specs.Reading.{IsRefusalOfStop}
use Rattle.bag_changes.specs.declared.fault.RenewFault.{RenewFault}
use Rattle.bag_changes.specs.declared.fault.RenewFault.TheVariants as why

abbrev manifests : List (List ℕ)
manifests = manifest_names Payload ++ manifest_names Tag

abbrev front : List (List ℕ)
front = tag_path Declaration ∷ tag_path Info ∷ begun_file ∷ []

among : (kind : Kind) (alg : Alg) → Contains (manifest_names kind) (tag_path (Manifest kind alg))
unfolding manifest_names
among kind alg = mapped_contains (λ (a : Alg). tag_path (Manifest kind a)) algs alg (each_is_listed alg)

-- the names of the tag files that a renewal writes are among them
pub is_reserved : (tag : TagName) → IsWritten tag → Contains reserved_names (tag_path tag)
is_reserved Declaration written = contains_first (tag_path Declaration) (tag_path Info ∷ begun_file ∷ manifests)
is_reserved Info written =
    contains_behind (tag_path Declaration) (tag_path Info ∷ begun_file ∷ manifests) (tag_path Info)
    (contains_first (tag_path Info) (begun_file ∷ manifests))
is_reserved Fetch written = absurd written
is_reserved (Manifest Payload alg) written =
    contains_back front manifests (tag_path (Manifest Payload alg))
    (contains_front (manifest_names Payload) (manifest_names Tag) (tag_path (Manifest Payload alg)) (among Payload alg))
is_reserved (Manifest Tag alg) written =
    contains_back front manifests (tag_path (Manifest Tag alg))
    (contains_back (manifest_names Payload) (manifest_names Tag) (tag_path (Manifest Tag alg)) (among Tag alg))

-- and so is that of a begun file
pub begun_is_reserved : Contains reserved_names begun_file
begun_is_reserved =
    contains_behind (tag_path Declaration) (tag_path Info ∷ begun_file ∷ manifests) begun_file
    (contains_behind (tag_path Info) (begun_file ∷ manifests) begun_file (contains_first begun_file manifests))

-- each is a name of the base folder
of_kind : (kind : Kind) (name : List ℕ) → Contains (manifest_names kind) name → is_base_name name ≡ true
unfolding manifest_names
of_kind kind name has =
    let one = contains_mapped (λ (alg : Alg). tag_path (Manifest kind alg)) algs name has in
    subst (λ n. is_base_name n ≡ true) one.2 (in_base (Manifest kind one.0))

pub reserved_in_base : (name : List ℕ) → Contains reserved_names name → is_base_name name ≡ true
reserved_in_base name has =
    elim (contains_cases (tag_path Declaration) (tag_path Info ∷ begun_file ∷ manifests) name has) [
      | inl is ↦ subst (λ n. is_base_name n ≡ true) is (in_base Declaration)
      | inr others ↦ elim (contains_cases (tag_path Info) (begun_file ∷ manifests) name others) [
        | inl is ↦ subst (λ n. is_base_name n ≡ true) is (in_base Info)
        | inr more ↦ elim (contains_cases begun_file manifests name more) [
          | inl is ↦ subst (λ n. is_base_name n ≡ true) is refl
          | inr manifest ↦ elim (contains_either (manifest_names Payload) (manifest_names Tag) name manifest) [
            | inl payload ↦ of_kind Payload name payload
            | inr tag ↦ of_kind Tag name tag
          ]
        ]
      ]
    ]

-- ---- looking for folders

pub opens_nothing : (old : TreeState) → OpensNothing old old
opens_nothing old = record { keeps = keeps_itself old; openings = refl; listed = refl; gave = refl }

pub opens_nothing_on : (old mid new : TreeState) → OpensNothing old mid → OpensNothing mid new → OpensNothing old new
opens_nothing_on old mid new h k = record {
  keeps = keeps_on old mid new h.keeps k.keeps;
  openings = k.openings ∙ h.openings;
  listed = k.listed ∙ h.listed;
  gave = k.gave ∙ h.gave;
}

only_name : (name other : List ℕ) → Contains (name ∷ []) other → name ≡ other
only_name name other c =
    elim (contains_cases name [] other c) [ inl same ↦ same | inr none ↦ absurd (contains_nothing other none) ]

-- no folder has one more of them
pub free_more : (old mid : TreeState) → OpensNothing old mid → (names : List (List ℕ)) (name : List ℕ)
    → (IsTrue old.honest → (one : List ℕ) → Contains names one → has_folder old.bag one ≡ false)
    → (IsTrue mid.honest → has_folder mid.bag name ≡ false)
    → IsTrue old.honest → (one : List ℕ) → Contains (names ++ name ∷ []) one → has_folder old.bag one ≡ false
free_more old mid so_far names name before free honest one has =
    elim (contains_either names (name ∷ []) one has) [
      | inl a ↦ before honest one a
      | inr b ↦ subst (λ n. has_folder old.bag n ≡ false) (only_name name one b)
          (subst (λ (bag : Bag). has_folder bag name ≡ false) so_far.keeps.bag (free (so_far.keeps.honest ∙ honest)))
    ]

-- what hinders at a name hinders at all of them
module _ (old mid new : TreeState) (so_far : OpensNothing old mid) (calm : NothingFailed old mid) (name : List ℕ)
    (has : Contains reserved_names name) where
  pub hindered_later : (fault : RenewFault) → IsHinderedBy (name ∷ []) mid new fault
      → IsHinderedBy reserved_names old new fault
  hindered_later (why.InTheWay n) h = (
    subst (Contains reserved_names) (only_name name n h.0) has,
    λ honest. subst (λ (bag : Bag). has_folder bag n ≡ true) so_far.keeps.bag (h.1 (so_far.keeps.honest ∙ honest)),
  )
  hindered_later (why.ReadStopped s) h = record {
    named = subst (Contains reserved_names) (only_name name s.path h.named) has;
    cause = later_refusal old mid new s.cause so_far.keeps h.cause;
    not_memory = h.not_memory;
    answered = h.answered;
  }
  hindered_later why.Memory h = memory_then old mid new calm h
  hindered_later fault h = absurd h

came_of_look : (old new : TreeState) (cause : TreeFault) → MayRefuse ⊥ ⊥ old new cause → new.last ≡ Refused cause
    → CameFromFile new cause
came_of_look old new Changed h last = absurd h
came_of_look old new Memory h last = tt
came_of_look old new cause h last = last

-- the tree refused to look for a folder
module _ (name : List ℕ) (old new : TreeState) (cause : TreeFault)
    (look : LooksForFolder name old new (Err cause)) where
  pub refused_look : (stop : Stop) (fault : RenewFault) → IsRefusalOf cause name stop → IsRefusalOfStop stop fault
      → IsHinderedBy (name ∷ []) old new fault
  refused_look stop (why.ReadStopped other) (inl (not, same, at)) is =
      subst (IsRefusedLook (name ∷ []) old new) (sym is.0) (record {
        named = subst (Contains (name ∷ [])) (sym at) (contains_first name []);
        cause = listing_refusal old new stop.cause (subst (MayRefuse ⊥ ⊥ old new) (sym same) look.refused);
        not_memory = is.1;
        answered = subst (CameFromFile new) (sym same) (came_of_look old new cause look.refused look.last);
      })
  refused_look stop (why.ReadStopped other) (inr (memory, of)) is = absurd (is.1 of.0)
  refused_look stop why.Memory (inl (not, same, at)) is = absurd (not (sym same ∙ is))
  refused_look stop why.Memory (inr (memory, of)) is = memory_refused old new cause look.last memory
  refused_look stop _ h is = absurd is
