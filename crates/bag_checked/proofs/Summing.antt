-- Checking and summing files one after another.
use Rattle.bag_checked.proofs.Common.{◌≡◌, ◌<◌, ◌≤◌, ◌+◌, ◌++◌, ◌∷◌, ℕ, List, [], length, take, get_or, Some, Contains}
use Rattle.bag_checked.proofs.Common.{refl, None, Option, contains_back, contains_cases, contains_either}
use Rattle.bag_checked.proofs.Common.{contains_first, contains_front, contains_nothing, inl, inr, unwrap_or, sym, ap}
use Rattle.bag_checked.proofs.Common.{◌∙◌, subst, arith, append_assoc, append-nil, map-append, All-append, All-cons}
use Rattle.bag_checked.proofs.Common.{All-nil, Alg, file, Bool, cond, true, false}
use Rattle.std.proofs.lemmas.List.{take_all}
use Rattle.std.proofs.lemmas.List.Elements.{filter-append}
use Rattle.bag_facts.proofs.Mapped.{take_one_more}
use Rattle.bag_facts.proofs.Reading.{keeps_itself, keeps_on}
use Rattle.bag_facts.specs.Wanted.{paths_of}
use Rattle.bag_facts.specs.declared.facts.Facts.{Facts}
use Rattle.bag_tree.specs.Tree.{Keeps, NothingFailed, TreeState}
use Rattle.bag_tree.specs.declared.listing.FileEntry.{FileEntry}
use Rattle.bag_tree.proofs.Calm.{nothing_asked, nothing_then}
use Rattle.bag_stages.specs.Expected.{Expected}
use Rattle.bag_stages.specs.MetadataStage.{bag_info_txt}
use Rattle.bag_stages.specs.SumFaults.{IsFaultOfFile, faults_of_bytes}
use Rattle.bag_checked.specs.Checked.{IsKeptOf, IsUnchecked}
use Rattle.bag_checked.specs.declared.checked.Unchecked.{Unchecked}
use Rattle.bag_checked.specs.declared.checked.Unchecked.TheVariants.{Faulty, Stopped}
use Rattle.bag_tags.specs.Summed.{File}
use Rattle.bag_checked.specs.Summed.{AreChecked, AreGivenAndChecked, AreSummedBy, HasSumsBy, IsCheckedFile, IsFaultyFile}
use Rattle.bag_checked.specs.Summed.{IsGivenFor, IsInfoAmong, IsNoMemory, IsRight, is_to_read, to_read}
use Rattle.bag_tree.specs.Listing.{entry_of_file}
use Rattle.bag_tags.specs.declared.summed.SummedFile.{SummedFile}
use Rattle.bag_checked.proofs.FirstFaults.{first_listed}

summed_more : (algs : List Alg) (files : List File) (summed : List SummedFile) (e : File) (one : SummedFile)
    → AreSummedBy algs files summed → HasSumsBy algs e one
    → AreSummedBy algs (files ++ e ∷ []) (summed ++ one ∷ [])
summed_more algs [] [] e one h s = (s, tt)
summed_more algs (x ∷ files) (y ∷ summed) e one h s = (h.0, summed_more algs files summed e one h.1 s)
summed_more algs _ _ e one h s = absurd h

-- the bytes of bag-info.txt among files, with one more
info_more : (files : List File) (info : List ℕ) (e : File) (kept : Option (List ℕ)) → IsInfoAmong files info
    → IsKeptOf e.0 e.1 kept → IsInfoAmong (files ++ e ∷ []) (unwrap_or kept info)
info_more files info e None (inl c) other = inl (contains_front files (e ∷ []) (bag_info_txt, info) c)
info_more files info e None (inr (none, not)) other =
    inr (
      none,
      λ x c same. elim (contains_either files (e ∷ []) x c) [
        | inl a ↦ not x a same
        | inr b ↦ elim (contains_cases e [] x b) [
          | inl is ↦ other (ap (λ (y : File). y.0) is ∙ same)
          | inr nothing ↦ contains_nothing x nothing
        ]
      ],
    )
info_more files info e (Some bytes) so_far (path, same) =
    inl (subst (Contains (files ++ e ∷ [])) (λ i. (path i, sym same i))
    (contains_back files (e ∷ []) e (contains_first e [])))

-- the same files were, where the entries are the same
abbrev of_entries : (old : TreeState) (facts : Facts) (entries others : List FileEntry) (algs : List Alg)
    (sums : List SummedFile) (info : List ℕ) → entries ≡ others → AreChecked old facts entries algs sums info
    → AreChecked old facts others algs sums info
of_entries old facts entries others algs sums info same h = record {
  files = h.files;
  info_of = h.info_of;
  listed = h.listed ∙ same;
  right = h.right;
  sums = h.sums;
  honest = h.honest;
}

-- the first of the listed files were checked and summed
pub record ChecksFirst (facts : Facts) (files : List FileEntry) (count : ℕ) (with_payload : Bool) (algs : List Alg)
    (old new : TreeState) (sums : List SummedFile) (info : List ℕ) : Type 0 where
  pub keeps : Keeps old new
  pub no_failure : NothingFailed old new
  pub opened : new.openings ≡ old.openings ++ paths_of (to_read with_payload (take count files))
  pub listed : new.listed ≡ old.listed
  pub checked : AreChecked old facts (to_read with_payload (take count files)) algs sums info
  pub gave : new.gave ≡ old.gave ++ checked.files

pub checks_none : (facts : Facts) (files : List FileEntry) (with_payload : Bool) (algs : List Alg) (old : TreeState)
    → ChecksFirst facts files 0 with_payload algs old old [] []
checks_none facts files with_payload algs old = record {
  keeps = keeps_itself old;
  no_failure = nothing_asked old;
  opened = sym (append-nil old.openings);
  listed = refl;
  gave = sym (append-nil old.gave);
  checked = record {
    files = [];
    info_of = inr (refl, λ x c. absurd (contains_nothing x c));
    listed = refl;
    right = All-nil (IsRight facts);
    sums = tt;
    honest = λ h. All-nil (λ (x : File). file old.bag x.0 ≡ Some x.1);
  };
}

module _ (facts : Facts) (files : List FileEntry) (i : ℕ) (entry : FileEntry) (with_payload : Bool) (algs : List Alg)
    (old mid new : TreeState) (summed : List SummedFile) (info : List ℕ)
    (lt : i < length files) (is : entry ≡ get_or files i entry)
    (before : ChecksFirst facts files i with_payload algs old mid summed info) where
  listed_next : (b : Bool) → is_to_read with_payload entry.path ≡ b
      → to_read with_payload (take (i + 1) files) ≡ to_read with_payload (take i files) ++ cond b (entry ∷ []) []
  listed_next b read =
      ap (to_read with_payload) (take_one_more files i entry lt is)
      ∙ filter-append (λ (e : FileEntry). is_to_read with_payload e.path) (take i files) (entry ∷ [])
      ∙ ap (λ c. to_read with_payload (take i files) ++ cond c (entry ∷ []) []) read

  -- a file isn't read
  pub passes_over : is_to_read with_payload entry.path ≡ false
      → ChecksFirst facts files (i + 1) with_payload algs old mid summed info
  passes_over other =
      let same = listed_next false other ∙ append-nil (to_read with_payload (take i files)) in record {
        keeps = before.keeps;
        no_failure = before.no_failure;
        opened = before.opened ∙ ap (λ xs. old.openings ++ paths_of xs) (sym same);
        listed = before.listed;
        checked = of_entries old facts _ _ algs summed info (sym same) before.checked;
        gave = before.gave;
      }

module _ (facts : Facts) (files : List FileEntry) (i : ℕ) (entry : FileEntry) (with_payload : Bool) (algs : List Alg)
    (old mid new : TreeState) (summed : List SummedFile) (info : List ℕ)
    (lt : i < length files) (is : entry ≡ get_or files i entry)
    (before : ChecksFirst facts files i with_payload algs old mid summed info)
    (read : is_to_read with_payload entry.path ≡ true) where
  pub next : to_read with_payload (take (i + 1) files) ≡ to_read with_payload (take i files) ++ entry ∷ []
  next = listed_next facts files i entry with_payload algs old mid new summed info lt is before true read

  abbrev added : (one : SummedFile) (kept : Option (List ℕ)) → IsCheckedFile mid new facts entry algs one kept
      → AreChecked old facts (to_read with_payload (take (i + 1) files)) algs (summed ++ one ∷ []) (unwrap_or kept info)
  added one kept e =
      let so_far = before.checked in
      let last : File = (entry.path, e.content) in record {
        files = so_far.files ++ last ∷ [];
        info_of = info_more so_far.files info last kept so_far.info_of e.kept_of;
        listed =
            map-append entry_of_file so_far.files (last ∷ [])
            ∙ (λ j. so_far.listed j ++ record { path = entry.path; size = e.read.size j } ∷ []) ∙ sym next;
        right = All-append (IsRight facts) so_far.files (last ∷ []) so_far.right
            (All-cons (IsRight facts) last [] e.right (All-nil (IsRight facts)));
        sums = summed_more algs so_far.files summed last one so_far.sums e.sums;
        honest = λ h. All-append (λ (x : File). file old.bag x.0 ≡ Some x.1) so_far.files (last ∷ []) (so_far.honest h)
            (All-cons (λ (x : File). file old.bag x.0 ≡ Some x.1) last []
            (ap (λ bag. file bag entry.path) (sym before.keeps.bag) ∙ e.read.honest (before.keeps.honest ∙ h))
            (All-nil (λ (x : File). file old.bag x.0 ≡ Some x.1)));
      }

  pub opened_more : new.openings ≡ mid.openings ++ entry.path ∷ []
      → new.openings ≡ old.openings ++ paths_of (to_read with_payload (take (i + 1) files))
  opened_more once = grind (arith, append_assoc, next, map-append)

  -- one more was
  pub checks_one_more : (after : List SummedFile) (one : SummedFile) (kept : Option (List ℕ))
      → after ≡ summed ++ one ∷ [] → Keeps mid new → IsCheckedFile mid new facts entry algs one kept
      → ChecksFirst facts files (i + 1) with_payload algs old new after (unwrap_or kept info)
  checks_one_more after one kept e k s =
      subst (λ sums. ChecksFirst facts files (i + 1) with_payload algs old new sums (unwrap_or kept info)) (sym e)
      (record {
        keeps = keeps_on old mid new before.keeps k;
        no_failure = nothing_then old mid new before.no_failure s.once.no_failure;
        opened = opened_more s.once.opened;
        listed = s.once.listed ∙ before.listed;
        checked = added one kept s;
        gave = s.read.gave ∙ ap (λ so_far. so_far ++ (entry.path, s.content) ∷ []) before.gave
            ∙ append_assoc old.gave before.checked.files ((entry.path, s.content) ∷ []);
      })

-- a path in a list of one
pub only_path : (path other : List ℕ) → Contains (path ∷ []) other → other ≡ path
only_path path other c =
    elim (contains_cases path [] other c) [ inl same ↦ sym same | inr none ↦ absurd (contains_nothing other none) ]

-- a file was found to have another digest, or was refused
module _ (facts : Facts) (state new : TreeState) where
  pub faulty_file : (entry : FileEntry) (expected : List Expected) (e : Unchecked)
      → IsGivenFor facts entry.path expected → IsUnchecked state new entry expected e
      → IsFaultyFile facts (entry ∷ []) state e
  faulty_file entry expected (Stopped stop) given h = tt
  faulty_file entry expected (Faulty fault) given (content, rest, read, same) = λ honest of deep up.
      let first =
      first_listed (IsFaultOfFile state.bag entry.path) (faults_of_bytes entry.path content expected) rest fault
      (given.faults state.bag of deep content (read.honest honest)) same in record {
        member = (
          first.member.0,
          subst (Contains (entry.path ∷ [])) (sym first.member.1) (contains_first entry.path []),
        );
        none_less = λ f is less. first.none_less f (is.0, only_path entry.path f.path is.1) less;
      }

  -- or memory ran out
  pub faulty_for_memory : (files : List FileEntry) (e : Unchecked) → IsNoMemory e → IsFaultyFile facts files state e
  faulty_for_memory files (Stopped stop) h = tt
  faulty_for_memory files (Faulty fault) h = absurd h

-- all were gone through
module _ (facts : Facts) (files : List FileEntry) (count : ℕ) (with_payload : Bool) (algs : List Alg)
    (old new : TreeState) (summed : List SummedFile) (info : List ℕ)
    (le : length files ≤ count) (all : ChecksFirst facts files count with_payload algs old new summed info) where
  pub checks_all : AreGivenAndChecked old new facts (to_read with_payload files) algs summed info
  checks_all = record {
    once = record {
      no_failure = all.no_failure;
      opened = all.opened ∙ ap (λ xs. old.openings ++ paths_of (to_read with_payload xs)) (take_all count files le);
      listed = all.listed;
    };
    are = of_entries old facts _ _ algs summed info (ap (to_read with_payload) (take_all count files le)) all.checked;
    gave = all.gave;
  }
