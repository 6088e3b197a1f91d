-- What lists have: the files of a bag and its manifests, and a set for each kind, algorithm and tag file.
use Rattle.bag_stages.proofs.Common.{◌≡◌, ◌++◌, map, ℕ, List, [], ◌∷◌, length, take, ◌-◌, Bool, true, false, refl, sym}
use Rattle.bag_stages.proofs.Common.{◌∙◌, subst, arith, Contains, bytes_eq, eq_by_cmp_equiv, nat_list_cmp_total, keys}
use Rattle.bag_stages.proofs.Common.{contains_key-keys, Contains-from_any, list_any-from_Contains, bytes_eq-Decides}
use Rattle.bag_stages.proofs.Common.{algs, without_prefix, Alg, each_is_listed, contains_back, contains_front}
use Rattle.bag_stages.proofs.Common.{mapped_contains, prefix, manifest_name, is_alg_text, is_manifest_name, Kind}
use Rattle.bag_stages.proofs.Common.{Payload, Tag, TagName, Info, Fetch, IsManifestName, named_is, both_true, Bag}
use Rattle.bag_stages.proofs.Common.{HasFile, one_text, HasList, HasManifest, eq_by_cmp, list_any, text_cmp, ◌≢◌}
use Rattle.bag_read.specs.declared.tag_name.TagName.TheVariants.{Declaration, Manifest}
use Rattle.bag_stages.proofs.HasLists.{Decided, nothing, one_where, only, same_set, some_decided, for_each, for_all}
use Rattle.bag_stages.proofs.HasLists.{true_or_not, not_decided}
use Rattle.bag_stages.proofs.PartFaults.{one_alg}

-- the algorithm's text in the name of a manifest
text_by : (kind : Kind) (path : List ℕ) (b : Bool) → is_manifest_name kind path ≡ b → HasList (IsManifestName kind path)
text_by kind path true e =
    let rest = without_prefix (prefix kind) path in
    let alg = take (length rest - 4) rest in
    let two = both_true (is_alg_text alg) (bytes_eq path (manifest_name kind alg)) e in
    let at : path ≡ manifest_name kind alg = (bytes_eq-Decides path (manifest_name kind alg)).0 two.1 in
    only (IsManifestName kind path) alg (two.0, at) (λ other h. one_alg kind kind other alg (sym h.1 ∙ at))
text_by kind path false e =
    nothing (IsManifestName kind path) (λ alg h. let clash : true ≡ false = sym (named_is kind path alg h) ∙ e in cc)

text_listed : (kind : Kind) (path : List ℕ) → HasList (IsManifestName kind path)
text_listed kind path = text_by kind path (is_manifest_name kind path) refl

module _ (bag : Bag) where
  -- the paths of the files
  pub files_listed : HasList (HasFile bag)
  files_listed = (
    keys bag.files,
    λ path. grind (
      arith,
      contains_key-keys bag.files path,
      list_any-from_Contains (eq_by_cmp_equiv nat_list_cmp_total) path (keys bag.files),
      Contains-from_any one_text path (keys bag.files),
    ),
  )

  -- the algorithms of the manifests of a kind
  pub manifests_listed : (kind : Kind) → HasList (HasManifest bag kind)
  manifests_listed kind =
      same_set (λ alg. (path : List ℕ) × HasFile bag path × IsManifestName kind path alg) (HasManifest bag kind)
      (λ alg h. (h.2.0, subst (HasFile bag) h.2.1 h.1))
      (λ alg h. (manifest_name kind alg, h.1, (h.0, refl)))
      (for_each (IsManifestName kind) (text_listed kind) (HasFile bag) files_listed)

each_kind : (kind : Kind) → Contains (Payload ∷ Tag ∷ []) kind
each_kind Payload = (0, omega arith, refl)
each_kind Tag = (1, omega arith, refl)

abbrev manifests_of : Kind → List TagName
manifests_of kind = map (Manifest kind) algs

abbrev names : List TagName
names = Declaration ∷ Info ∷ Fetch ∷ (manifests_of Payload ++ manifests_of Tag)

each_name : (name : TagName) → Contains names name
each_name Declaration = (0, omega arith, refl)
each_name Info = (1, omega arith, refl)
each_name Fetch = (2, omega arith, refl)
each_name (Manifest Payload alg) =
    contains_back (Declaration ∷ Info ∷ Fetch ∷ []) (manifests_of Payload ++ manifests_of Tag) _
    (contains_front (manifests_of Payload) (manifests_of Tag) _
    (mapped_contains (Manifest Payload) algs alg (each_is_listed alg)))
each_name (Manifest Tag alg) =
    contains_back (Declaration ∷ Info ∷ Fetch ∷ []) (manifests_of Payload ++ manifests_of Tag) _
    (contains_back (manifests_of Payload) (manifests_of Tag) _
    (mapped_contains (Manifest Tag) algs alg (each_is_listed alg)))

module _ {A : Type 0} where
  pub over_kinds : (P : Kind → A → Type 0) → ((kind : Kind) → HasList (P kind))
      → HasList (λ x. (kind : Kind) × P kind x)
  over_kinds P each = for_all P each (Payload ∷ Tag ∷ []) each_kind

  pub over_algs : (P : Alg → A → Type 0) → ((alg : Alg) → HasList (P alg)) → HasList (λ x. (alg : Alg) × P alg x)
  over_algs P each = for_all P each algs each_is_listed

  pub over_names : (P : TagName → A → Type 0) → ((name : TagName) → HasList (P name))
      → HasList (λ x. (name : TagName) × P name x)
  over_names P each = for_all P each names each_name

-- whether something holds of some algorithm
pub some_alg : (D : Alg → Type 0) → ((alg : Alg) → Decided (D alg)) → Decided ((alg : Alg) × D alg)
some_alg D each =
    let all = over_algs (λ (alg : Alg) (x : Alg). D alg × (x ≡ alg)) (λ alg. one_where alg (D alg) (each alg)) in
    grind (arith, some_decided _ all)

-- whether two texts are one
pub same_or_not : (a b : List ℕ) → Decided (a ≡ b)
same_or_not a b = grind (arith, true_or_not (bytes_eq a b), bytes_eq-Decides a b)

pub other_or_not : (a b : List ℕ) → Decided (a ≢ b)
other_or_not a b = not_decided (a ≡ b) (same_or_not a b)

-- whether a path is among these
pub there_or_not : (paths : List (List ℕ)) (path : List ℕ) → Decided (Contains paths path)
there_or_not paths path =
    grind (
      arith,
      true_or_not (list_any (eq_by_cmp text_cmp path) paths),
      Contains-from_any one_text path paths,
      list_any-from_Contains (eq_by_cmp_equiv nat_list_cmp_total) path paths,
    )
