-- The folders that a listing tells of.
use Rattle.bag_facts.proofs.Common.{◌≡◌, inl, inr, ℕ, arith, List, ◌∷◌, Bool, true, false, refl, sym, ◌∙◌, subst, map}
use Rattle.bag_facts.proofs.Common.{codes, Contains, eq_by_cmp, nat_list_cmp_total, and_from, bytes_eq-Decides}
use Rattle.bag_facts.proofs.Common.{text_cmp, is_path, is_base_name, is_payload_path, first_component, under}
use Rattle.bag_facts.proofs.Common.{contains_cases, contains_first, contains_behind, any_from, from_any, IsOrdered}
use Rattle.bag_facts.proofs.Common.{HasItsFolder, FileEntry, Listing, one_text, text_itself, PathsAreTexts, paths_of}
use Rattle.bag_facts.proofs.Common.{filter, IsUtf8}
use Rattle.std.specs.FinSet as set
use Rattle.std.specs.Char.{encode_utf8}
use Rattle.bag_tree.proofs.Parents.{is_in_folder, under_in_folder, first-under, first_is_base_name, first_is_text}
use Rattle.bag_facts.proofs.Mapped.{mapped_contains, contains_mapped, kept, passed}

-- the folders that listed files stand in
abbrev tops : List FileEntry → List (List ℕ)
tops files = map first_component (filter is_in_folder (paths_of files))

abbrev with_data : Bool → List (List ℕ) → List (List ℕ)
with_data true names = codes "data" ∷ names
with_data false names = names

abbrev pub folder_names : Listing → List (List ℕ)
folder_names listing = with_data listing.has_data (tops listing.files)

abbrev pub folders_of : Listing → set.FinSet text_cmp
folders_of listing = set.from_list (folder_names listing)

-- a path is listed by its entry
pub entry_of : (files : List FileEntry) (path : List ℕ) → Contains (paths_of files) path
    → (entry : FileEntry) × Contains files entry × (entry.path ≡ path)
entry_of files path c = contains_mapped (λ (e : FileEntry). e.path) files path c

-- a listed path is a path
pub is_listed_path : (files : List FileEntry) (path : List ℕ) → IsOrdered files → Contains (paths_of files) path
    → is_path path ≡ true
is_listed_path files path ordered c = grind (arith, entry_of files path c)

-- and a text
pub is_listed_text : (files : List FileEntry) (path : List ℕ) → PathsAreTexts files → Contains (paths_of files) path
    → IsUtf8 path
is_listed_text files path texts c =
    let (entry, there, same) = entry_of files path c in subst IsUtf8 same (texts entry there)

-- a folder that a listed file stands in has one
from_top : (files : List FileEntry) (name : List ℕ) → Contains (tops files) name
    → (path : List ℕ) × Contains (paths_of files) path × (is_in_folder path ≡ true) × (first_component path ≡ name)
from_top files name c =
    let (path, d, same) = contains_mapped first_component (filter is_in_folder (paths_of files)) name c in
    let both = kept is_in_folder (paths_of files) path d in
    (path, both.1, both.0, same)

to_top : (files : List FileEntry) (top rest : List ℕ) → is_base_name top ≡ true
    → Contains (paths_of files) (under top rest) → Contains (tops files) top
to_top files top rest is c =
    subst (Contains (tops files)) (first-under top rest is)
    (mapped_contains first_component (filter is_in_folder (paths_of files)) (under top rest)
    (passed is_in_folder (paths_of files) (under top rest) (under_in_folder top rest is) c))

has_name : (names : List (List ℕ)) (name : List ℕ) → Contains names name
    → set.contains (set.from_list {R = text_cmp} names) name ≡ true
has_name names name c =
    set.contains-from_list nat_list_cmp_total names name
    ∙ any_from (eq_by_cmp text_cmp name) names name c (text_itself name)

name_there : (names : List (List ℕ)) (name : List ℕ) → set.contains (set.from_list {R = text_cmp} names) name ≡ true
    → Contains names name
name_there names name has =
    let (other, c, same) =
    from_any (eq_by_cmp text_cmp name) names (sym (set.contains-from_list nat_list_cmp_total names name) ∙ has) in
    subst (Contains names) (sym (one_text name other same)) c

data_by : (b : Bool) (names : List (List ℕ)) (has : Bool)
    → set.contains (set.from_list {R = text_cmp} (with_data b names)) (codes "data") ≡ has
    → (Contains names (codes "data") → b ≡ true) → b ≡ has
data_by true names has is needs =
    sym (has_name (codes "data" ∷ names) (codes "data") (contains_first (codes "data") names)) ∙ is
data_by false names true is needs = needs (name_there names (codes "data") is)
data_by false names false is needs = refl

-- the payload folder is there where the listing has it
pub data_listed : (listing : Listing) → IsOrdered listing.files → HasItsFolder listing
    → listing.has_data ≡ set.contains (folders_of listing) (codes "data")
data_listed listing ordered needs =
    data_by listing.has_data (tops listing.files) _ refl (λ c.
    let (path, there, within, same) = from_top listing.files (codes "data") c in
    let (entry, d, at) = entry_of listing.files path there in
    let payload : is_payload_path path ≡ true =
    and_from _ _ (and_from _ _ (is_listed_path listing.files path ordered there)
    ((bytes_eq-Decides (first_component path) (codes "data")).1 same)) within in
    needs entry d (subst (λ p. is_payload_path p ≡ true) (sym at) payload))

in_names : (b : Bool) (names : List (List ℕ)) (name : List ℕ) → Contains names name → Contains (with_data b names) name
in_names true names name c = contains_behind (codes "data") names name c
in_names false names name c = c

-- the folder of a listed file is there
pub parent_listed : (listing : Listing) (top rest : List ℕ) → is_base_name top ≡ true
    → Contains (paths_of listing.files) (under top rest) → set.contains (folders_of listing) top ≡ true
parent_listed listing top rest is c =
    has_name (folder_names listing) top
    (in_names listing.has_data (tops listing.files) top (to_top listing.files top rest is c))

abbrev IsTextName : List ℕ → Type 0
IsTextName name = (is_base_name name ≡ true) × IsUtf8 name

data_is_name : IsTextName (codes "data")
unfolding encode_utf8
data_is_name = (refl, (codes "data", (refl, refl)))

name_by : (b : Bool) (names : List (List ℕ)) (name : List ℕ) → (Contains names name → IsTextName name)
    → Contains (with_data b names) name → IsTextName name
name_by true names name is c =
    elim (contains_cases (codes "data") names name c) [ inl same ↦ subst IsTextName same data_is_name | inr d ↦ is d ]
name_by false names name is c = is c

-- the folders have names that are texts
pub folder_is_name : (listing : Listing) (name : List ℕ) → IsOrdered listing.files → PathsAreTexts listing.files
    → set.contains (folders_of listing) name ≡ true → (is_base_name name ≡ true) × IsUtf8 name
folder_is_name listing name ordered texts has =
    name_by listing.has_data (tops listing.files) name
    (λ c.
    let (path, there, within, same) = from_top listing.files name c in
    subst IsTextName same (
      first_is_base_name path (is_listed_path listing.files path ordered there) within,
      first_is_text path (is_listed_text listing.files path texts there) within,
    ))
    (name_there (folder_names listing) name has)
