-- The steps of a walk over the folders of a disk.
use Rattle.std.proofs.lemmas.Grind.{common_steps}
use Rattle.bag_disk.proofs.Common.{arith, ◌≡◌, ◌≢◌, ℕ, ◌==◌, true, false, List, [], ◌∷◌, ◌++◌, length, Option, Some}
use Rattle.bag_disk.proofs.Common.{None, is_some, map, refl, ap, sym, ◌∙◌, subst, IsTrue, MatchOption, Result, OnOk}
use Rattle.bag_disk.proofs.Common.{◌⊎◌, inl, inr, eqb-true, eq-eqb, append_assoc, Contains, option_map, All-nil}
use Rattle.bag_disk.proofs.Common.{All-cons, Contains-push, Contains-push_cases, Contains-append_left}
use Rattle.bag_disk.proofs.Common.{Contains-append_right, slash, under, path_in, DiskState, OnlyLooks, Nodes, Node}
use Rattle.bag_disk.proofs.Common.{node, Has, IsReachedByFolders, IsFolder, IsDisk, IsName, AreNamesIn, entry_of_node}
use Rattle.bag_disk.proofs.Common.{is_plain_found, File, Folder, Walked, Listing, AllStand, IsBelow, IsAtOrBelow}
use Rattle.bag_disk.proofs.Common.{IsFileOf, walked_paths, files_with, folders_with, Entry, FileEntry, get_or-map}
use Rattle.bag_disk.proofs.Common.{length-map}
use Rattle.bag_disk.specs.declared.disk.Entry.TheVariants as entry

pub contains_none : {X : Type 0} (x : X) → Contains [] x → ⊥
contains_none x h = elim h.1 [ ]

-- what a list with one more first element contains
pub contains_cases : {X : Type 0} (x : X) (xs : List X) (y : X) → Contains (x ∷ xs) y → (x ≡ y) ⊎ Contains xs y
contains_cases x xs y h = grind (arith, contains_none)

pub contains_first : {X : Type 0} (x : X) (xs : List X) → Contains (x ∷ xs) x
contains_first x xs = grind arith

pub contains_map : {X Y : Type 0} (f : X → Y) (xs : List X) (x : X) → Contains xs x → Contains (map f xs) (f x)
contains_map f xs x h = (h.0, rw length-map h.1, get_or-map f xs h.0 x (f x) h.1 ∙ ap f h.2)

-- a text is a name, or begins with one
pub first_name : (t : List ℕ) → IsName t ⊎ ((name rest : List ℕ) × IsName name × (t ≡ under name rest))
first_name [] = inl (All-nil (λ c. c ≢ slash))
first_name (c ∷ t) =
    elim (c == slash) as
    (λ b. (c == slash) ≡ b → IsName (c ∷ t) ⊎ ((name rest : List ℕ) × IsName name × ((c ∷ t) ≡ under name rest))) [
      | true ↦ λ is. inr ([], t, All-nil (λ c. c ≢ slash), ap (λ c. c ∷ t) (eqb-true c slash is))
      | false ↦ λ not. let other : c ≢ slash = grind (arith, eq-eqb c slash) in elim (first_name t) [
        | inl is ↦ inl (All-cons (λ c. c ≢ slash) c t other is)
        | inr at ↦ inr (c ∷ at.0, at.1, All-cons (λ c. c ≢ slash) c at.0 other at.2, ap (λ t. c ∷ t) at.3)
      ]
    ] refl

pub has_folder : (nodes : Nodes) (path : List ℕ) → node nodes path ≡ Some Folder → Has nodes path
has_folder nodes path e = ap is_some e

is_folder : (nodes : Nodes) (path : List ℕ) → node nodes path ≡ Some Folder → IsFolder nodes path
is_folder nodes path e = grind arith

is_below : (top rest path : List ℕ) → path ≡ under top rest → IsBelow top path
is_below [] rest path e = tt
is_below (c ∷ top) rest path e = (rest, e)

abbrev Pending : List (List ℕ) → List ℕ → Type 0
Pending pending path = (top : List ℕ) × Contains pending top × IsAtOrBelow top path

-- what stands below a folder stands at or below one of its names
below_a_name : (nodes : Nodes) (folder path : List ℕ) (names : List (List ℕ)) → IsDisk nodes
    → AreNamesIn nodes folder names → Has nodes path → IsBelow folder path → Pending (map (path_in folder) names) path
below_a_name nodes [] path names disk are has below = elim (first_name path) [
  | inl is ↦ (path, contains_map (path_in []) names path (are.all path is has), inl refl)
  | inr at ↦ (
    at.0,
    contains_map (path_in []) names at.0
        (are.all at.0 at.2 (has_folder nodes at.0 (disk.folders path has at.0 at.1 at.3))),
    inr (at.1, at.3),
  )
]
below_a_name nodes (c ∷ folder) path names disk are has below = elim (first_name below.0) [
  | inl is ↦ (
    under (c ∷ folder) below.0,
    contains_map (path_in (c ∷ folder)) names below.0 (are.all below.0 is (subst (Has nodes) below.1 has)),
    inl below.1,
  )
  | inr at ↦
      let deeper : path ≡ under (under (c ∷ folder) at.0) at.1 =
      below.1 ∙ ap (under (c ∷ folder)) at.3 ∙ sym (append_assoc (c ∷ folder) (slash ∷ at.0) (slash ∷ at.1)) in (
        under (c ∷ folder) at.0,
        contains_map (path_in (c ∷ folder)) names at.0
            (are.all at.0 at.2
            (has_folder nodes (under (c ∷ folder) at.0)
            (disk.folders path has (under (c ∷ folder) at.0) at.1 deeper))),
        inr (at.1, deeper),
      )
]

-- all of some, and one more
pub all_with : {X : Type 0} (P : X → Type 0) (xs : List X) (x : X) → ((y : X) → Contains xs y → P y) → P x → (y : X)
    → Contains (xs ++ x ∷ []) y → P y
all_with P xs x old new y h = grind (arith, Contains-push_cases xs x y h)

-- a folder was opened for listing
pub folder_begun : (nodes : Nodes) (files : List FileEntry) (folders listed : List (List ℕ)) (folder : List ℕ)
    (names : List (List ℕ)) → IsDisk nodes → AreNamesIn nodes folder names
    → Walked nodes files (folders ++ folder ∷ []) listed []
    → Walked nodes files folders (listed ++ folder ∷ []) (map (path_in folder) names)
folder_begun nodes files folders listed folder names disk are walked = record {
  are_files = walked.are_files;
  are_folders = λ f h. walked.are_folders f (Contains-append_left folders (folder ∷ []) f h);
  were_folders =
      all_with (IsFolder nodes) listed folder walked.were_folders
      (walked.are_folders folder (Contains-push folders folder));
  all = λ path has. elim (walked.all path has) [
    | inl filed ↦ inl filed
    | inr (inl old) ↦ inr (inl (Contains-append_left listed (folder ∷ []) path old))
    | inr (inr (inl found)) ↦ elim (Contains-push_cases folders folder path found) [
      | inl still ↦ inr (inr (inl still))
      | inr e ↦ inr (inl (subst (Contains (listed ++ folder ∷ [])) e (Contains-push listed folder)))
    ]
    | inr (inr (inr (inl below))) ↦ elim (Contains-push_cases folders folder below.0 below.1) [
      | inl still ↦ inr (inr (inr (inl (below.0, still, below.2))))
      | inr e ↦ inr (inr
          (inr (inr (below_a_name nodes folder path names disk are has (subst (λ f. IsBelow f path) (sym e) below.2)))))
    ]
    | inr (inr (inr (inr at))) ↦ absurd (contains_none at.0 at.1)
  ];
}

pub file_there : (o : Option Node) (size : ℕ) → option_map entry_of_node o ≡ Some (entry.File size)
    → (bytes : List ℕ) × (o ≡ Some (File bytes)) × (size ≡ length bytes)
file_there (Some (File bytes)) size e = (bytes, refl, cc)
file_there _ size e = cc

pub folder_there : (o : Option Node) → option_map entry_of_node o ≡ Some entry.Folder → o ≡ Some Folder
folder_there (Some Folder) e = refl
folder_there _ e = cc

paths_push : (files : List FileEntry) (file : FileEntry)
    → walked_paths (files ++ file ∷ []) ≡ walked_paths files ++ file.path ∷ []
paths_push files file = grind (arith, common_steps)

-- what stands there was found, or is still to be
abbrev Seen : List FileEntry → List (List ℕ) → List (List ℕ) → List (List ℕ) → List ℕ → Type 0
Seen files folders listed pending path = Contains (walked_paths files) path
    ⊎ (Contains listed path
    ⊎ (Contains folders path
    ⊎ (((folder : List ℕ) × Contains folders folder × IsBelow folder path) ⊎ Pending pending path)))

-- one pending path fewer
seen_more : (files files' : List FileEntry) (folders folders' listed pending : List (List ℕ)) (path p : List ℕ)
    → (Contains (walked_paths files) p → Contains (walked_paths files') p)
    → ((f : List ℕ) → Contains folders f → Contains folders' f)
    → (IsAtOrBelow path p → Seen files' folders' listed pending p) → Seen files folders listed (path ∷ pending) p
    → Seen files' folders' listed pending p
seen_more files files' folders folders' listed pending path p filed kept here (inl old) = inl (filed old)
seen_more files files' folders folders' listed pending path p filed kept here (inr (inl old)) = inr (inl old)
seen_more files files' folders folders' listed pending path p filed kept here (inr (inr (inl old))) =
    inr (inr (inl (kept p old)))
seen_more files files' folders folders' listed pending path p filed kept here (inr (inr (inr (inl below)))) =
    inr (inr (inr (inl (below.0, kept below.0 below.1, below.2))))
seen_more files files' folders folders' listed pending path p filed kept here (inr (inr (inr (inr at)))) =
    elim (contains_cases path pending at.0 at.1) [
      | inl e ↦ here (subst (λ top. IsAtOrBelow top p) (sym e) at.2)
      | inr old ↦ inr (inr (inr (inr (at.0, old, at.2))))
    ]

-- what stands at a pending path was found
pub path_put : (nodes : Nodes) (files : List FileEntry) (folders listed pending : List (List ℕ)) (path : List ℕ)
    (found : Entry) → IsDisk nodes
    → option_map entry_of_node (node nodes path) ≡ Some found → (found ≡ entry.Other → ⊥)
    → Walked nodes files folders listed (path ∷ pending)
    → Walked nodes (files_with files path found) (folders_with folders path found) listed pending
path_put nodes files folders listed pending path (entry.File size) disk is known walked =
    let file : FileEntry = record { path = path; size = size } in
    let there = file_there (node nodes path) size is in
    record {
      are_files = all_with (IsFileOf nodes) files file walked.are_files there;
      are_folders = walked.are_folders;
      were_folders = walked.were_folders;
      all =
          λ p has. seen_more files (files ++ file ∷ []) folders folders listed pending path p
          (λ old. rw paths_push (Contains-append_left (walked_paths files) (path ∷ []) p old)) (λ f old. old)
          (elim [
            | inl here ↦ inl (rw (paths_push, here) (Contains-push (walked_paths files) path))
            | inr below ↦ let both : Some (File there.0) ≡ Some Folder = sym there.1
                ∙ disk.folders p has path below.0 below.1 in cc
          ]) (walked.all p has);
    }
path_put nodes files folders listed pending path entry.Folder disk is known walked = record {
  are_files = walked.are_files;
  are_folders =
      all_with (IsFolder nodes) folders path walked.are_folders
      (is_folder nodes path (folder_there (node nodes path) is));
  were_folders = walked.were_folders;
  all =
      λ p has. seen_more files files folders (folders ++ path ∷ []) listed pending path p (λ old. old)
      (Contains-append_left folders (path ∷ [])) (elim [
        | inl here ↦ inr (inr (inl (rw here (Contains-push folders path))))
        | inr below ↦ inr (inr (inr (inl (path, Contains-push folders path, is_below path below.0 p below.1))))
      ]) (walked.all p has);
}
path_put nodes files folders listed pending path entry.Other disk is known walked = absurd (known refl)

-- the step, where the path's text is known in three ways
module _ (nodes : Nodes) (files files_after : List FileEntry) (folders folders_after listed pending : List (List ℕ))
    (location path text : List ℕ) (found : Entry) (disk : IsDisk nodes) (at : path ≡ location) (same : text ≡ path)
    (is : IsReachedByFolders nodes text → option_map entry_of_node (node nodes text) ≡ Some found)
    (has : Has nodes location) (files_are : files_after ≡ files_with files path found)
    (folders_are : folders_after ≡ folders_with folders path found) (known : found ≡ entry.Other → ⊥) where
  pub name_added : Walked nodes files folders listed (location ∷ pending)
      → Walked nodes files_after folders_after listed pending
  name_added walked = grind (arith, path_put)

pub on_ok3 : {A E P Q R S : Type 0} (r : Result A E) → OnOk r P → OnOk r Q → OnOk r R → (P → Q → R → S) → OnOk r S
on_ok3 r p q s f = grind (arith, f)

-- a folder's listing begins
pub listing_begun : (nodes : Nodes) (files : List FileEntry) (folders listed : List (List ℕ)) (folder text : List ℕ)
    (names : List (List ℕ)) → IsDisk nodes
    → text ≡ folder → (IsFolder nodes text → AreNamesIn nodes text names)
    → Walked nodes files (folders ++ folder ∷ []) listed [] → Listing nodes files folders listed folder names
listing_begun nodes files folders listed folder text names disk same are walked =
    let named : AreNamesIn nodes folder names =
    grind (arith, walked.are_folders folder (Contains-push folders folder)) in
    record { walked = folder_begun nodes files folders listed folder names disk named walked; there = named.there }

abbrev Next : DiskState → DiskState → Option (List ℕ) → Type 0
Next at new next = MatchOption next (at.names ≡ []) (λ name. at.names ≡ name ∷ new.names)

-- a turn of the walk through one folder
module _ (old at new : DiskState) (next : Option (List ℕ)) (files files_after : List FileEntry)
    (folders folders_after listed : List (List ℕ)) (folder name name_text : List ℕ)
    (before : OnlyLooks old at) (after : OnlyLooks at new) (is : next ≡ Some name)
    (gives : IsTrue at.honest → Next at new next) (same : name_text ≡ name)
    (added : IsTrue new.honest → Has new.nodes (path_in folder name_text) → (listed pending : List (List ℕ))
    → Walked new.nodes files folders listed (path_in folder name_text ∷ pending)
    → Walked new.nodes files_after folders_after listed pending) where
  pub turn : IsTrue old.honest → Listing old.nodes files folders listed folder at.names
      → Listing old.nodes files_after folders_after listed folder new.names
  turn honest now =
      let names : at.names ≡ name ∷ new.names = grind arith in
      let nodes : new.nodes ≡ old.nodes = after.nodes ∙ before.nodes in
      let was = rw names at now in
      record {
        walked =
            grind (
              arith,
              was.there name (contains_first name new.names),
              was.walked,
              rw nodes at (added (after.honest ∙ before.honest ∙ honest)),
            );
        there = λ n h. was.there n (Contains-append_right (name ∷ []) new.names n h);
      }

-- the next name is that of something in the folder
pub next_there : (old at new : DiskState) (next : Option (List ℕ)) (files : List FileEntry)
    (folders listed : List (List ℕ)) (folder name name_text : List ℕ)
    → OnlyLooks old at → OnlyLooks at new → next ≡ Some name → (IsTrue at.honest → Next at new next) → name_text ≡ name
    → IsTrue old.honest → Listing old.nodes files folders listed folder at.names
    → Has new.nodes (path_in folder name_text)
next_there old at new next files folders listed folder name name_text before after is gives same honest now =
    grind (arith, contains_first)

-- no name of the folder is left
pub folder_ended : (old at new : DiskState) (next : Option (List ℕ)) (files : List FileEntry)
    (folders listed : List (List ℕ)) (folder : List ℕ)
    → OnlyLooks old at → next ≡ None → (IsTrue at.honest → Next at new next)
    → IsTrue old.honest → Listing old.nodes files folders listed folder at.names
    → Walked old.nodes files folders (listed ++ folder ∷ []) []
folder_ended old at new next files folders listed folder before is gives honest now = grind arith

pub looks_at_first : (state : DiskState) → OnlyLooks state state
looks_at_first state = record { nodes = refl; honest = refl; openings = refl; rest = refl; noted = refl; trail = refl }

pub looks_on : (old at new : DiskState) → OnlyLooks old at → OnlyLooks at new → OnlyLooks old new
looks_on old at new before after = grind arith

-- what follows from the listing of a folder holds once the folder is with those that were listed
module _ (old at : DiskState) (files : List FileEntry) (folders listed : List (List ℕ)) (folder text again : List ℕ)
    (after : List (List ℕ)) (Q : Nodes → List (List ℕ) → Type 0) (disk : IsDisk old.nodes) (looks : OnlyLooks old at)
    (same : text ≡ folder) (same_again : again ≡ folder) (after_is : after ≡ listed ++ folder ∷ [])
    (are : IsTrue old.honest → IsFolder old.nodes text → AreNamesIn old.nodes text at.names)
    (follows : IsTrue at.honest → (listed : List (List ℕ)) → Listing at.nodes files folders listed again at.names
    → Q at.nodes (listed ++ again ∷ [])) where
  pub folder_done : IsTrue old.honest → Walked old.nodes files (folders ++ folder ∷ []) listed [] → Q old.nodes after
  folder_done honest walked = grind (arith, listing_begun)

-- what was found stands there
pub all_stand : (nodes : Nodes) (files : List FileEntry) (folders listed pending : List (List ℕ))
    → Walked nodes files folders listed pending → AllStand nodes files folders listed
all_stand nodes files folders listed pending walked =
    record {
      are_there = λ e h.
          ap is_plain_found (walked.are_files e h).1;
      are_folders =
          walked.are_folders;
      were_folders = walked.were_folders;
    }

-- what was found without one of the folders stands there, too
pub fewer_stand : (nodes : Nodes) (files : List FileEntry) (folders listed : List (List ℕ)) (folder : List ℕ)
    → AllStand nodes files folders (listed ++ folder ∷ []) → AllStand nodes files folders listed
fewer_stand nodes files folders listed folder stand = grind (arith, Contains-append_left)

-- at first the base folder is to be listed
pub walk_begun : (nodes : Nodes) → Walked nodes [] ([] ∷ []) [] []
walk_begun nodes = grind (arith, contains_none, contains_cases, contains_first)
