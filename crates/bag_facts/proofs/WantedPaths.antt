-- The wanted tag files among listed files.
use Rattle.bag_facts.proofs.Common.{◌≡◌, inl, inr, ◌&&◌, ℕ, List, [], ◌∷◌, ◌++◌, Bool, true, false, cond, refl, ap}
use Rattle.bag_facts.proofs.Common.{arith, Contains, map, bytes_eq, filter, list_any, IsStrictlySortedBy, and_from}
use Rattle.bag_facts.proofs.Common.{map-append, filter-append, bytes_eq-Decides, text_cmp, algs, each_is_listed}
use Rattle.bag_facts.proofs.Common.{contains_front, contains_back, tag_path, TagName, Declaration, Info, Fetch}
use Rattle.bag_facts.proofs.Common.{Manifest, any_from, from_any, both_true, FileEntry, Wants, IsWanted, AreWanted}
use Rattle.bag_facts.proofs.Common.{paths_of, Options}
use Rattle.std.proofs.lemmas.List.Kept.{IsStrictlySortedBy-filter}
use Rattle.bag_read.specs.declared.kind.Kind.TheVariants.{Payload, Tag}
use Rattle.bag_faults.specs.declared.options.Depth.{Depth}
use Rattle.bag_faults.specs.declared.options.Depth.TheVariants as depth_of
use Rattle.bag_facts.proofs.Mapped.{kept, passed, mapped_contains}

abbrev names : List TagName
names = Declaration ∷ Info ∷ Fetch ∷ (map (Manifest Payload) algs ++ map (Manifest Tag) algs)

each_name : (name : TagName) → Contains names name
each_name Declaration = (0, omega arith, refl)
each_name Info = (1, omega arith, refl)
each_name Fetch = (2, omega arith, refl)
each_name (Manifest Payload alg) =
    contains_back (Declaration ∷ Info ∷ Fetch ∷ []) (map (Manifest Payload) algs ++ map (Manifest Tag) algs)
    (Manifest Payload alg)
    (contains_front (map (Manifest Payload) algs) (map (Manifest Tag) algs) (Manifest Payload alg)
    (mapped_contains (Manifest Payload) algs alg (each_is_listed alg)))
each_name (Manifest Tag alg) =
    contains_back (Declaration ∷ Info ∷ Fetch ∷ []) (map (Manifest Payload) algs ++ map (Manifest Tag) algs)
    (Manifest Tag alg)
    (contains_back (map (Manifest Payload) algs) (map (Manifest Tag) algs) (Manifest Tag alg)
    (mapped_contains (Manifest Tag) algs alg (each_is_listed alg)))

abbrev is_deep : Depth → Bool
is_deep depth_of.Declaration = false
is_deep other = true

abbrev wants : Options → TagName → Bool
wants options Declaration = true
wants options other = is_deep options.depth

to_wants : (options : Options) (name : TagName) → Wants options name → wants options name ≡ true
to_wants options Declaration h = refl
to_wants options other (inl e) = cc
to_wants options other (inr more) = grind arith

from_wants : (options : Options) (name : TagName) → wants options name ≡ true → Wants options name
from_wants options Declaration h = inl refl
from_wants options other h = grind arith

abbrev pub is_wanted : Options → List ℕ → Bool
is_wanted options path = list_any (λ name. wants options name && bytes_eq (tag_path name) path) names

pub to_wanted : (options : Options) (path : List ℕ) → IsWanted options path → is_wanted options path ≡ true
to_wanted options path (name, at, wanted) =
    any_from (λ other. wants options other && bytes_eq (tag_path other) path) names name (each_name name)
    (and_from _ _ (to_wants options name wanted) ((bytes_eq-Decides (tag_path name) path).1 at))

pub from_wanted : (options : Options) (path : List ℕ) → is_wanted options path ≡ true → IsWanted options path
from_wanted options path h =
    let some = from_any (λ other. wants options other && bytes_eq (tag_path other) path) names h in
    let two = both_true (wants options some.0) (bytes_eq (tag_path some.0) path) some.2 in
    (some.0, (bytes_eq-Decides (tag_path some.0) path).0 two.1, from_wants options some.0 two.0)

-- the wanted tag files among files, in their order
unfoldable pub wanted : Options → List FileEntry → List (List ℕ)
wanted options files = filter (is_wanted options) (paths_of files)

pub are_wanted : (options : Options) (files : List FileEntry) → IsStrictlySortedBy text_cmp (paths_of files)
    → AreWanted options files (wanted options files)
unfolding wanted
are_wanted options files s = record {
  ascending = IsStrictlySortedBy-filter text_cmp (is_wanted options) (paths_of files) s;
  members = λ path. (
    λ c. let k = kept (is_wanted options) (paths_of files) path c in (from_wanted options path k.0, k.1),
    λ m. passed (is_wanted options) (paths_of files) path (to_wanted options path m.0) m.1,
  );
}

pub none_wanted : (options : Options) → wanted options [] ≡ []
unfolding wanted
none_wanted options = refl

pub wanted_joined : (options : Options) (xs ys : List FileEntry)
    → wanted options (xs ++ ys) ≡ wanted options xs ++ wanted options ys
unfolding wanted
wanted_joined options xs ys = grind (arith, map-append, filter-append)

one_by : (options : Options) (entry : FileEntry) (b : Bool) → is_wanted options entry.path ≡ b
    → wanted options (entry ∷ []) ≡ cond b (entry.path ∷ []) []
unfolding wanted
one_by options entry b e = ap (λ t. cond t (entry.path ∷ []) []) e

pub one_wanted : (options : Options) (entry : FileEntry) → IsWanted options entry.path
    → wanted options (entry ∷ []) ≡ entry.path ∷ []
one_wanted options entry h = one_by options entry true (to_wanted options entry.path h)

unwanted_by : (options : Options) (path : List ℕ) (b : Bool) → is_wanted options path ≡ b → ¬ (IsWanted options path)
    → b ≡ false
unwanted_by options path true e other = absurd (other (from_wanted options path e))
unwanted_by options path false e other = refl

pub one_unwanted : (options : Options) (entry : FileEntry) → ¬ (IsWanted options entry.path)
    → wanted options (entry ∷ []) ≡ []
one_unwanted options entry other =
    one_by options entry false (unwanted_by options entry.path (is_wanted options entry.path) refl other)
