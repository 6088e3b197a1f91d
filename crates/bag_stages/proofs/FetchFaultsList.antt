-- Every bag has a list of the faults of its list of files to fetch.
use Rattle.bag_stages.proofs.Common.{◌⊎◌, ℕ, List, Option, None, Some, refl, is_utf8, lines_of_file, IsFetchFault, Alg}
use Rattle.bag_stages.proofs.Common.{fetch_entry_in, entries_read, faults_read, not_utf8, LineFault, AreFaults}
use Rattle.bag_stages.proofs.Common.{entries_of_lines, faults_of_no_text, faults_of_text, ◌≡◌, ◌∷◌, [], Bool, true}
use Rattle.bag_stages.proofs.Common.{false, Bag, file, rules_in, IsByV10, IsByV097, IsFetchLeftOutByAll}
use Rattle.bag_stages.proofs.Common.{IsFetchLeftOutByOne, IsFetchLeftOutBySome, not_in_manifest, fetch_txt}
use Rattle.bag_stages.proofs.Common.{FaultsAreListed, HasFetch, IsOfFetch, HasList, IsLeftOutByAll, IsLeftOutByOne}
use Rattle.bag_stages.proofs.Common.{lines_in}
use Rattle.bag_stages.specs.FetchFaults.{IsFetchLeftOut}
use Rattle.bag_stages.proofs.BagLists.{over_algs}
use Rattle.bag_stages.proofs.FetchFaults.{IsLeft, IsLeftAt, OfLine, from_left, line_tells, of_some, some_is, to_left}
use Rattle.bag_stages.proofs.HasLists.{Decided, one_where, same_set, either, for_each, where_so}
use Rattle.bag_stages.proofs.InFile.{lines_have_list}
use Rattle.bag_stages.proofs.LeftOut.{v097_or_not, v10_or_not, by_all_or_not, by_one_or_not}

-- the faults of the lines of any bytes
line_faults : (bag : Bag) (bytes : List ℕ) (b : Bool) → is_utf8 bytes ≡ b
    → (faults : List LineFault) × AreFaults (IsFetchFault (rules_in bag) bytes) faults
line_faults bag bytes true e =
    (faults_read (fetch_entry_in (rules_in bag)) (lines_of_file bytes), faults_of_text (rules_in bag) bytes e)
line_faults bag bytes false e = (not_utf8 ∷ [], faults_of_no_text (rules_in bag) bytes e)

module _ (bag : Bag) where
  of_lines : HasList (OfLine bag)
  of_lines =
      lines_have_list bag fetch_txt None 4 (IsFetchFault (rules_in bag)) is_utf8 (line_tells bag)
      (λ bytes. line_faults bag bytes (is_utf8 bytes) refl) (file bag fetch_txt) refl

  fetched : HasList (HasFetch bag)
  fetched = (
    entries_read (fetch_entry_in (rules_in bag)) (lines_in bag fetch_txt),
    (entries_of_lines (rules_in bag) (lines_in bag fetch_txt)).members,
  )

  -- the files to fetch of whose paths this holds
  left : (told : Option Alg) (IsOut : List ℕ → Type 0) → ((path : List ℕ) → Decided (IsOut path))
      → HasList (IsLeft bag told IsOut)
  left told IsOut decided =
      same_set _ (IsLeft bag told IsOut) (to_left bag told IsOut) (from_left bag told IsOut)
      (for_each (IsLeftAt bag told IsOut)
      (λ e. one_where (not_in_manifest fetch_txt told e) (IsOut e.path) (decided e.path)) (HasFetch bag) fetched)

  not_listed : HasList (IsFetchLeftOut bag)
  not_listed =
      either _ _ (where_so (IsByV10 bag) (IsFetchLeftOutBySome bag) (v10_or_not (rules_in bag))
      (over_algs (IsFetchLeftOutByOne bag) (λ alg.
      left (Some alg) (IsLeftOutByOne bag alg) (λ path. by_one_or_not bag path alg))))
      (where_so (IsByV097 bag) (IsFetchLeftOutByAll bag) (v097_or_not (rules_in bag))
      (left None (IsLeftOutByAll bag) (by_all_or_not bag)))

pub fetch_faults_are_listed : FaultsAreListed IsOfFetch
fetch_faults_are_listed bag =
    same_set (λ f. OfLine bag f ⊎ IsFetchLeftOut bag f) (IsOfFetch bag) (some_is bag) (of_some bag)
    (either (OfLine bag) (IsFetchLeftOut bag) (of_lines bag) (not_listed bag))
