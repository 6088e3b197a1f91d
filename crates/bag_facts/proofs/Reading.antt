-- Reading listed files one after another.
use Rattle.bag_facts.proofs.Common.{◌≡◌, ◌<◌, ◌≤◌, ◌+◌, ◌++◌, ◌∷◌, inl, inr, ℕ, List, [], length, take, drop, map}
use Rattle.bag_facts.proofs.Common.{get_or, None, Some, refl, sym, ap, ◌∙◌, subst, arith, Contains, append_assoc}
use Rattle.bag_facts.proofs.Common.{append-nil, IsStrictlySortedBy, map-append, take-append-drop, take_all, text_cmp}
use Rattle.bag_facts.proofs.Common.{contains_either, contains_cases, contains_nothing, NothingFailed, IsListingOf}
use Rattle.bag_facts.proofs.Common.{TreeState, Keeps, OpensAtMost, IsEntryOf, FailsOver, MayRefuseListing, IsRefusedAt}
use Rattle.bag_facts.proofs.Common.{Unlisted, FileEntry, Listing, Stop, TreeFault, Device, Special, Name, NotFound}
use Rattle.bag_facts.proofs.Common.{TooMany, Changed, NoneOpen, Memory, Exists, memory_then, memory_unlisted}
use Rattle.bag_facts.proofs.Common.{nothing_asked, nothing_then, MayRefuseFacts, MayStopReading, AreFilesOfBag}
use Rattle.bag_facts.proofs.Common.{PathsAreTexts, IsWhole, ReadsWanted, StopsReading, read_path, given_of, IsWanted}
use Rattle.bag_facts.proofs.Common.{AreWanted, OpensFirst, OpensUpTo, paths_of, Options, TagBytes, IsUtf8, IsTrue}
use Rattle.bag_facts.proofs.ListedFiles.{own_size}
use Rattle.bag_facts.proofs.Mapped.{take_one_more, taken_cases}
use Rattle.bag_facts.proofs.Refusing.{wanted_some}
use Rattle.bag_facts.proofs.WantedPaths.{wanted, are_wanted, none_wanted, wanted_joined, one_wanted, one_unwanted}

pub keeps_on : (old mid new : TreeState) → Keeps old mid → Keeps mid new → Keeps old new
keeps_on old mid new k l = grind arith

pub keeps_itself : (old : TreeState) → Keeps old old
keeps_itself old =
    record {
      bag = refl;
      plain = refl;
      honest = refl;
      entries = refl;
      failures = omega arith;
      noted = refl;
      trail = refl;
    }

later_failure : (old mid new : TreeState) → Keeps old mid → FailsOver mid new → FailsOver old new
later_failure old mid new k (failed, other) = (omega arith, λ honest. sym k.plain ∙ other (k.honest ∙ honest))

pub later_refusal : (old mid new : TreeState) (cause : TreeFault) → Keeps old mid → MayRefuseFacts mid new cause
    → MayRefuseFacts old new cause
later_refusal old mid new Device k h = omega arith
later_refusal old mid new Special k h = later_failure old mid new k h
later_refusal old mid new Name k h = later_failure old mid new k h
later_refusal old mid new NotFound k h = λ honest. h (k.honest ∙ honest)
later_refusal old mid new TooMany k h = λ honest. rw (← k.entries) (h (k.honest ∙ honest))
later_refusal old mid new Changed k h = λ honest. h (k.honest ∙ honest)
later_refusal old mid new NoneOpen k h = h
later_refusal old mid new Memory k h = tt
later_refusal old mid new Exists k h = h

-- a later stop is one of the whole
pub later_stop : (options : Options) (old mid new : TreeState) (stop : Stop) → Keeps old mid → NothingFailed old mid
    → StopsReading options mid new stop → StopsReading options old new stop
later_stop options old mid new stop k no_failure h = grind (arith, later_refusal, memory_then)

-- the first of the listed files have paths that are texts, and the wanted ones among them were read
pub record ReadsSome (options : Options) (files : List FileEntry) (count : ℕ) (old new : TreeState)
    (read : List TagBytes) : Type 0 where
  pub keeps : Keeps old new
  pub no_failure : NothingFailed old new
  pub opened : new.openings ≡ old.openings ++ map read_path read
  pub listed : new.listed ≡ old.listed
  pub gave : new.gave ≡ old.gave ++ map given_of read
  pub paths : map read_path read ≡ wanted options (take count files)
  pub whole : (one : TagBytes) → Contains read one → IsWhole files old one
  pub texts : PathsAreTexts (take count files)

pub reads_none : (options : Options) (files : List FileEntry) (old : TreeState) → ReadsSome options files 0 old old []
reads_none options files old = grind (arith, keeps_itself, nothing_asked, append-nil, none_wanted, contains_nothing)

-- those among the first of the listed files were opened
pub opens_first : (options : Options) (files : List FileEntry) (count : ℕ) (old new : TreeState)
    → IsStrictlySortedBy text_cmp (paths_of files)
    → new.openings ≡ old.openings ++ wanted options (take count files) → OpensFirst options files old new
opens_first options files count old new s e = (
  wanted options (take count files),
  wanted options (drop count files),
  subst (AreWanted options files)
      (ap (wanted options) (sym (take-append-drop count files))
      ∙ wanted_joined options (take count files) (drop count files))
      (are_wanted options files s),
  e,
)

module _ {options : Options} {files : List FileEntry} {i : ℕ} {entry : FileEntry} {old mid : TreeState} {read : List
    TagBytes} (s : IsStrictlySortedBy text_cmp (paths_of files))
    (lt : i < length files) (is : entry ≡ get_or files i entry) (before : ReadsSome options files i old mid read)
    (new : TreeState) where
  listed : Contains files entry
  listed = (i, lt, sym is)

  next_paths : wanted options (take (i + 1) files) ≡ map read_path read ++ wanted options (entry ∷ [])
  next_paths =
      ap (wanted options) (take_one_more files i entry lt is) ∙ wanted_joined options (take i files) (entry ∷ [])
      ∙ ap (λ paths. paths ++ wanted options (entry ∷ [])) (sym before.paths)

  texts_more : IsUtf8 entry.path → PathsAreTexts (take (i + 1) files)
  texts_more text other c =
      elim (taken_cases files i entry other lt is c)
      [ inl a ↦ before.texts other a | inr e ↦ subst (λ (x : FileEntry). IsUtf8 x.path) e text ]

  -- a listed file isn't wanted
  pub reads_no_more : Keeps mid new → NothingFailed mid new → new.listed ≡ mid.listed → IsUtf8 entry.path
      → ReadsWanted options entry mid new None → ReadsSome options files (i + 1) old new read
  reads_no_more k no_failure still text h =
      grind (arith, keeps_on, nothing_then, next_paths, one_unwanted, append-nil, texts_more)

  module _ (one : TagBytes) (k : Keeps mid new) (no_failure : NothingFailed mid new)
      (still : new.listed ≡ mid.listed) (text : IsUtf8 entry.path) (h : ReadsWanted options entry mid new (Some one)) where
    entry_wanted : IsWanted options entry.path
    entry_wanted = (one.name, h.at, h.wanted)

    pub opened_more : new.openings ≡ old.openings ++ wanted options (take (i + 1) files)
    opened_more = grind (arith, append_assoc, one_wanted, entry_wanted, next_paths)

    paths_more : map read_path (read ++ one ∷ []) ≡ wanted options (take (i + 1) files)
    paths_more = grind (arith, map-append, one_wanted, entry_wanted, next_paths)

    one_whole : IsWhole files old one
    one_whole = grind (arith, own_size, listed)

    gave_one : new.gave ≡ old.gave ++ map given_of (read ++ one ∷ [])
    gave_one =
        h.gave ∙ (λ j. before.gave j ++ (sym h.at j, one.bytes.items) ∷ [])
        ∙ append_assoc old.gave (map given_of read) (given_of one ∷ [])
        ∙ ap (λ given. old.gave ++ given) (sym (map-append given_of read (one ∷ [])))

    -- one more was read
    pub reads_one_more : ReadsSome options files (i + 1) old new (read ++ one ∷ [])
    reads_one_more = record {
      keeps = keeps_on old mid new before.keeps k;
      no_failure = nothing_then old mid new before.no_failure no_failure;
      opened = opened_more ∙ ap (λ paths. old.openings ++ paths) (sym paths_more);
      listed = still ∙ before.listed;
      gave = gave_one;
      paths = paths_more;
      whole = λ other c. elim (contains_either read (one ∷ []) other c) [
        | inl a ↦ before.whole other a
        | inr b ↦ elim (contains_cases one [] other b)
            [ inl e ↦ subst (IsWhole files old) e one_whole | inr none ↦ absurd (contains_nothing other none) ]
      ];
      texts = texts_more text;
    }

  up_to_here : IsWanted options entry.path → wanted options (take (i + 1) files) ≡ map read_path read ++ entry.path ∷ []
  up_to_here w = next_paths ∙ ap (λ paths. map read_path read ++ paths) (one_wanted options entry w)

  -- reading stopped at a listed file
  pub opens_up_to : IsWanted options entry.path → IsRefusedAt mid.openings entry.path new
      → OpensUpTo options files entry.path old new
  opens_up_to w refused = (
    map read_path read,
    wanted options (drop (i + 1) files),
    subst (AreWanted options files)
        (ap (wanted options) (sym (take-append-drop (i + 1) files))
        ∙ wanted_joined options (take (i + 1) files) (drop (i + 1) files)
        ∙ ap (λ paths. paths ++ wanted options (drop (i + 1) files)) (up_to_here w)
        ∙ append_assoc (map read_path read) (entry.path ∷ []) (wanted options (drop (i + 1) files)))
        (are_wanted options files s),
    subst (λ opened. IsRefusedAt opened entry.path new) before.opened refused,
  )

  -- the file was opened at most
  pub opens_first_here : IsWanted options entry.path → OpensAtMost mid new entry.path → OpensFirst options files old new
  opens_first_here w (inl none) =
      opens_first options files i old new s (none ∙ before.opened ∙ ap (λ paths. old.openings ++ paths) before.paths)
  opens_first_here w (inr once) =
      opens_first options files (i + 1) old new s
      (once ∙ ap (λ paths. paths ++ entry.path ∷ []) before.opened
      ∙ append_assoc old.openings (map read_path read) (entry.path ∷ [])
      ∙ ap (λ paths. old.openings ++ paths) (sym (up_to_here w)))

  listed_as_is : (IsTrue old.honest → AreFilesOfBag old.bag files) → IsTrue mid.honest → IsEntryOf mid.bag entry
  listed_as_is are honest = grind (arith, own_size)

  -- its refusal is a stop of the whole
  pub stops_at : (stop : Stop) → ((IsTrue mid.honest → IsEntryOf mid.bag entry) → StopsReading options mid new stop)
      → (IsTrue old.honest → AreFilesOfBag old.bag files) → StopsReading options old new stop
  stops_at stop at are = later_stop options old mid new stop before.keeps before.no_failure (at (listed_as_is are))

-- at the end the wanted files are read
pub all_wanted : (options : Options) (files : List FileEntry) (count : ℕ) (old new : TreeState) (read : List TagBytes)
    → IsStrictlySortedBy text_cmp (paths_of files) → length files ≤ count
    → ReadsSome options files count old new read → AreWanted options files (map read_path read)
all_wanted options files count old new read s le h =
    grind (arith, wanted options, take_all count files le, are_wanted options files s)

-- and all paths are texts
pub all_texts : (options : Options) (files : List FileEntry) (count : ℕ) (old new : TreeState) (read : List TagBytes)
    → length files ≤ count
    → ReadsSome options files count old new read → PathsAreTexts files
all_texts options files count old new read le h = subst PathsAreTexts (take_all count files le) h.texts

pub listing_refusal : (old new : TreeState) (cause : TreeFault) → MayRefuseListing old new cause
    → MayRefuseFacts old new cause
listing_refusal old new Changed h = absurd h
listing_refusal old new NoneOpen h = absurd h
listing_refusal old new Memory h = tt
listing_refusal old new other h = h

-- a refused listing stops reading the facts
pub listing_stop : (options : Options) (old new : TreeState) (cause : TreeFault) (stop : Stop) → stop.cause ≡ cause
    → stop.path ≡ [] → new.openings ≡ old.openings → new.rest ≡ old.rest
    → MayRefuseListing old new cause → new.last ≡ Unlisted cause → MayStopReading options old new stop
listing_stop options old new cause stop same none unopened left h last = grind (arith, listing_refusal, memory_unlisted)

-- what stops reading after a listing stops reading the facts
pub facts_stop : (options : Options) (listing : Listing) (files : List FileEntry) (old mid new : TreeState)
    (stop : Stop) → Keeps old mid → NothingFailed old mid → files ≡ listing.files
    → (IsTrue old.honest → IsListingOf old.bag listing)
    → ((IsTrue mid.honest → AreFilesOfBag mid.bag files) → StopsReading options mid new stop)
    → MayStopReading options old new stop
facts_stop options listing files old mid new stop k no_failure e listed stops =
    grind (arith, listed, later_stop, wanted_some)
