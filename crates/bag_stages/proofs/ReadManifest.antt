-- The manifest of a kind and an algorithm, as it was read.
use Rattle.bag_stages.proofs.Common.{◌≡◌, ℕ, List, true, false, None, Some, ap, sym, ◌∙◌, subst, is_some, Contains, on}
use Rattle.bag_stages.proofs.Common.{IsListOf, text_cmp, Alg, contains_nothing, IsEntry, Kind, ManifestEntry}
use Rattle.bag_stages.proofs.Common.{entry_named, named_has_entry, Bag, file, rules_in, entry_paths, AreByPath}
use Rattle.bag_stages.proofs.Common.{IsManifestNamed, IsReadOf, Manifest, contains_mapped, mapped_contains, lines_in}
use Rattle.bag_stages.proofs.Common.{manifest_of, HasSupported, Names, IsEntryIn}
use Rattle.bag_stages.proofs.InFile.{not_there, read_bytes}

module _ (bag : Bag) (kind : Kind) (alg : Alg) where
  -- a manifest names the paths of its entries
  module _ (entries : List ManifestEntry) (list : IsListOf (on (λ e. e.path) text_cmp) (IsEntryIn bag kind alg) entries)
    where
      pub has_path : (path : List ℕ) → Names bag kind alg path → Contains (entry_paths entries) path
      has_path path named =
          let some = named_has_entry (rules_in bag) kind alg (lines_in bag (manifest_of kind alg)) path named in
          subst (Contains (entry_paths entries)) some.2
          (mapped_contains (λ (e : ManifestEntry). e.path) entries some.0 ((list.members some.0).1 some.1))

      pub path_named : (path : List ℕ) → Contains (entry_paths entries) path → Names bag kind alg path
      path_named path c =
          let some = contains_mapped (λ (e : ManifestEntry). e.path) entries path c in
          subst (Names bag kind alg) some.2
          (entry_named (rules_in bag) kind alg (lines_in bag (manifest_of kind alg)) some.0
          ((list.members some.0).0 some.1))

  -- one that is there
  module _ (m : Manifest) where
    pub listed_by : (bytes : List ℕ) → file bag (manifest_of kind alg) ≡ Some bytes
        → IsManifestNamed (rules_in bag) kind alg bytes m
        → IsListOf (on (λ e. e.path) text_cmp) (IsEntryIn bag kind alg) m.entries
    listed_by bytes there (of, is_kind, is_alg) =
        let list : IsListOf (on (λ e. e.path) text_cmp)
        (IsEntry (rules_in bag) kind alg (lines_in bag (manifest_of kind alg))) m.entries =
        rw (there, sym is_kind, sym is_alg) of.entries in list

    module _ (read : IsReadOf (IsManifestNamed (rules_in bag) kind alg) (file bag (manifest_of kind alg)) (Some m))
      where
        said : (bytes : List ℕ) × (file bag (manifest_of kind alg) ≡ Some bytes)
            × IsManifestNamed (rules_in bag) kind alg bytes m
        said = read_bytes (IsManifestNamed (rules_in bag) kind alg) (file bag (manifest_of kind alg)) m read

        listed : IsListOf (on (λ e. e.path) text_cmp) (IsEntryIn bag kind alg) m.entries
        listed = listed_by said.0 said.1 said.2

        pub of_alg : m.alg ≡ alg
        of_alg = said.2.2

        pub by_path : AreByPath m.entries
        by_path = listed.ascending

        pub is_there : HasSupported bag kind alg
        is_there = ap is_some said.1

        pub names_entry : (path : List ℕ) → Names bag kind alg path → Contains (entry_paths m.entries) path
        names_entry = has_path m.entries listed

        pub entry_names : (path : List ℕ) → Contains (entry_paths m.entries) path → Names bag kind alg path
        entry_names = path_named m.entries listed

  -- one that isn't there names nothing
  module _ (read : IsReadOf (IsManifestNamed (rules_in bag) kind alg) (file bag (manifest_of kind alg)) None) where
    lacks : file bag (manifest_of kind alg) ≡ None
    lacks = not_there (IsManifestNamed (rules_in bag) kind alg) (file bag (manifest_of kind alg)) read

    pub is_absent : HasSupported bag kind alg → ⊥
    is_absent has = let clash : false ≡ true = ap is_some (sym lacks) ∙ has in cc

    pub names_nothing : (path : List ℕ) → Names bag kind alg path → ⊥
    names_nothing path named = contains_nothing path (rw lacks at named)
