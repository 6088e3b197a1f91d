-- The entries and the faults of fetch.txt.
use Rattle.bag_read.proofs.Common.{List, Ok, [], arith, false, refl, sym, true, ℕ, ◌∙◌, ◌∷◌, ◌≡◌, nat_cmp, on}
use Rattle.bag_read.proofs.Common.{nothing_listed, one_listed, same_members, lines_of_file, IsListOf, IsNoText, IsText}
use Rattle.bag_read.proofs.Common.{Code, NotUtf8, Rules, FetchFault, IsFetch, IsFetchFault, fetch_entry_in, AreFaults}
use Rattle.bag_read.proofs.Common.{entries_read, faults_read, line_fault_cmp, not_utf8, FetchEntry, LineFault}
use Rattle.bag_read.proofs.Common.{fetch_line, entry, length_of, url_of}
use Rattle.bag_read.specs.Fetch.{HasUnreadFetchLine}
use Rattle.bag_read.proofs.FaultOrder.{is_fault}
use Rattle.bag_read.proofs.FetchLine.{of_unread, unread_line}
use Rattle.bag_read.proofs.LinesRead.{IsRead, IsUnread, entries_listed, faults_listed}
use Rattle.bag_read.proofs.Reason.{bind_err}
use Rattle.bag_read.proofs.Utf8.{no_line}

abbrev line_of : FetchEntry → ℕ
line_of e = e.line

module _ (rules : Rules) where
  numbered : (n : ℕ) (line : List ℕ) (e : FetchEntry) → fetch_entry_in rules n line ≡ Ok e → line_of e ≡ n
  numbered n line e h = grind (arith, fetch_line)

  module _ (all : List (List ℕ)) where
    is_fetch : (e : FetchEntry) → IsRead (fetch_entry_in rules) all line_of e → IsFetch rules all e
    is_fetch e (line, at, (some, is)) = grind (arith, fetch_line)

    fetch_is : (e : FetchEntry) → IsFetch rules all e → IsRead (fetch_entry_in rules) all line_of e
    fetch_is e (line, at, (some, url, size, is)) = grind arith

    -- the entries of a file's lines
    pub entries_of_lines : IsListOf (on (λ e. e.line) nat_cmp) (IsFetch rules all)
        (entries_read (fetch_entry_in rules) all)
    entries_of_lines =
        same_members (on line_of nat_cmp) (IsRead (fetch_entry_in rules) all line_of) (IsFetch rules all) _ is_fetch
        fetch_is (entries_listed (fetch_entry_in rules) all line_of numbered)

  module _ (bytes : List ℕ) (is_utf8 : IsText bytes) where
    abbrev all : List (List ℕ)
    all = lines_of_file bytes

    fault_read : (f : LineFault) → IsUnread (fetch_entry_in rules) all f → IsFetchFault rules bytes f
    fault_read f (line, at, (some, is)) =
        let reason = bind_err (fetch_line rules line) (entry f.line (url_of line) (length_of line)) (f.code, f.detail) is
        in of_unread rules f.code bytes f (line, at, (some, reason))

    is_unread : (code : Code) (f : LineFault) → f.code ≡ code → HasUnreadFetchLine rules code bytes f
        → IsUnread (fetch_entry_in rules) all f
    is_unread code f e (line, at, (some, reason)) = grind arith

    from_code : (code : Code) (f : LineFault) → f.code ≡ code → FetchFault rules code bytes f
        → IsUnread (fetch_entry_in rules) all f
    from_code NotUtf8 f e h = let clash : true ≡ false = sym is_utf8 ∙ h.2 in cc
    from_code code f e h = is_unread code f e (unread_line rules code bytes f (λ same. cc) h)

    -- the faults of a file that is UTF-8
    pub faults_of_text : AreFaults (IsFetchFault rules bytes) (faults_read (fetch_entry_in rules) all)
    faults_of_text =
        same_members line_fault_cmp (IsUnread (fetch_entry_in rules) all) (IsFetchFault rules bytes) _ fault_read
        (λ f h. from_code f.code f refl h) (faults_listed (fetch_entry_in rules) all)

  module _ (bytes : List ℕ) (other : IsNoText bytes) where
    -- a file that isn't UTF-8 has no entry and one fault
    pub entries_of_no_text : IsListOf (on (λ e. e.line) nat_cmp) (IsFetch rules (lines_of_file bytes)) []
    entries_of_no_text =
        nothing_listed (on (λ e. e.line) nat_cmp) (IsFetch rules (lines_of_file bytes)) (λ e h.
        no_line bytes other e.line h.0 h.1)

    only : (f : LineFault) → IsFetchFault rules bytes f → f ≡ not_utf8
    only f h = grind (arith, is_fault, no_line bytes other)

    pub faults_of_no_text : AreFaults (IsFetchFault rules bytes) (not_utf8 ∷ [])
    faults_of_no_text = one_listed line_fault_cmp (IsFetchFault rules bytes) not_utf8 (refl, refl, other) only
