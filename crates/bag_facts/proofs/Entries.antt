-- The entries of a manifest, as it was read and as they are found.
use Rattle.bag_facts.proofs.Common.{◌≡◌, ◌≢◌, ◌<◌, ◌≤◌, ℕ, List, [], Bool, true, false, Option, None, Some, Bor, refl}
use Rattle.bag_facts.proofs.Common.{ap, sym, ◌∙◌, subst, ◌↔◌, Contains, IsTrue, Result, Err, length, get_or, arith}
use Rattle.bag_facts.proofs.Common.{HoldsAt, option_copied, is_ok, nat_cmp_total, tied_itself, IsPermutation}
use Rattle.bag_facts.proofs.Common.{IsSortedByKey, IsBinarySearchResult, IsSearchInRange, nat_cmp, on, is_utf8, Less}
use Rattle.bag_facts.proofs.Common.{Equal, text_cmp, IsListOf, Rules, Alg, LineFault, AreFaults, IsEntry}
use Rattle.bag_facts.proofs.Common.{IsManifestFault, IsManifestOf, AreByPath, entry_paths, AreEntriesOf}
use Rattle.bag_facts.proofs.Common.{IsManifestNamed, IsReadOf, MatchOption, is_some}
use Rattle.bag_text.specs.Lines.{lines_of_file}
use Rattle.bag_read.specs.declared.kind.Kind.{Kind}
use Rattle.bag_entries.specs.declared.entry.ManifestEntry.{ManifestEntry}
use Rattle.bag_read.proofs.ManifestEntries.{entry_of_path_once}
use Rattle.bag_facts.proofs.ByPath.{sorted_once, found, text_same}
use Rattle.bag_facts.proofs.Mapped.{mapped_contains}
use Rattle.bag_facts.specs.declared.tag_facts.Manifest.{Manifest}

some_entry : ManifestEntry
some_entry = record { line = 0; digest = []; path = [] }

never_less : (n : ℕ) → nat_cmp n n ≢ Less
never_less n less = let clash : Less ≡ Equal = sym less ∙ tied_itself nat_cmp_total n in cc

-- what was parsed and sorted is what the bytes say
pub parsed_is : (rules : Rules) (kind : Kind) (alg : Alg) (bytes : List ℕ) (is_text : Bool)
    (items entries : List ManifestEntry) (faults : List LineFault) → is_text ≡ is_utf8 bytes
    → IsListOf (on (λ e. e.line) nat_cmp) (IsEntry rules kind alg (lines_of_file bytes)) items
    → IsPermutation items entries → IsSortedByKey (λ e. e.path) text_cmp entries
    → AreFaults (IsManifestFault rules kind alg bytes) faults
    → IsManifestOf rules bytes
    (record { kind = kind; alg = alg; is_text = is_text; entries = entries; faults = faults })
parsed_is rules kind alg bytes is_text items entries faults text list perm sorted wrong = record {
  text = text;
  entries =
      sorted_once (λ e. e.path) (on (λ e. e.line) nat_cmp) (IsEntry rules kind alg (lines_of_file bytes))
      (λ e. never_less e.line) (entry_of_path_once rules kind alg (lines_of_file bytes)) items entries some_entry
      list perm sorted;
  faults = wrong;
}

module _ (entries : List ManifestEntry) (path : List ℕ) where
  -- the entry at a path, or none
  abbrev pub IsEntryAt : Option ManifestEntry → Type 0
  IsEntryAt o =
      MatchOption o (¬ (Contains (entry_paths entries) path)) (λ entry. Contains entries entry × (entry.path ≡ path))

  -- a search by path that ended at a place found an entry of that path there
  pub entry_found : (i : ℕ) (o : Option (Bor ManifestEntry)) → i < length entries
      → HoldsAt (λ e. text_cmp e.path path ≡ Equal) entries i
      → MatchOption o (length entries ≤ i) (λ x. (i < length entries) × HoldsAt (λ e. x.now ≡ e) entries i)
      → IsEntryAt (option_copied o)
  entry_found i None lt at past = absurd (omega arith)
  entry_found i (Some x) lt at got = (
    (i, lt, sym (got.1 x.now)),
    ap (λ (e : ManifestEntry). e.path) (got.1 x.now) ∙ text_same (get_or entries i x.now).path path (at x.now),
  )

  -- one that ended at no place found that there is none
  pub no_entry_found : (i : ℕ) (r : Result ℕ ℕ) → r ≡ Err i → AreByPath entries → IsSearchInRange r (length entries)
      → IsBinarySearchResult (λ e. text_cmp e.path path) entries r
      → ¬ (Contains (entry_paths entries) path)
  no_entry_found i r is ordered within at c =
      let clash : false ≡ true =
      sym (ap is_ok is) ∙ (found (λ e. e.path) entries some_entry path r ordered within at).1 c in cc

-- whether there is such an entry
pub named_found : (entries seen : List ManifestEntry) (path : List ℕ) (o : Option (Bor ManifestEntry)) (b : Bool)
    → seen ≡ entries → b ≡ is_some o → IsEntryAt seen path (option_copied o)
    → IsTrue b ↔ Contains (entry_paths entries) path
named_found entries seen path None b same is none = rw (is, sym same) (λ e. cc, λ c. absurd (none c))
named_found entries seen path (Some x) b same is there =
    rw (is, sym same) (
      λ _.
          subst (Contains (entry_paths seen)) there.1 (mapped_contains (λ e. e.path) seen x.now there.0),
      λ _. refl,
    )

module _ (rules : Rules) (kind : Kind) (alg : Alg) where
  -- one that is there
  pub entries_read : (content : Option (List ℕ)) (m : Manifest)
      → IsReadOf (IsManifestNamed rules kind alg) content (Some m) → AreEntriesOf rules kind alg content m.entries
  entries_read None m read = absurd read
  entries_read (Some bytes) m read = grind arith

  -- one that isn't there
  pub nothing_read : (content : Option (List ℕ)) → IsReadOf (IsManifestNamed rules kind alg) content None
      → AreEntriesOf rules kind alg content []
  nothing_read None read = refl
  nothing_read (Some bytes) read = absurd read
