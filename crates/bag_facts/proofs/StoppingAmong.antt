-- Reading files one after another stops at one of them, or when out of memory.
use Rattle.bag_facts.proofs.Common.{◌≡◌, ◌≢◌, ◌∙◌, ◌++◌, ◌∷◌, inl, inr, ℕ, List, [], All, All-cons, All-nil, IsTrue, ap}
use Rattle.bag_facts.proofs.Common.{sym, subst, append-nil, append_assoc, map-append, contains_back, contains_first, CameFromFile}
use Rattle.bag_facts.proofs.Common.{IsEntryOf, IsRefusedAt, Keeps, MayReportMemory, MayRefuseWhole, NothingFailed}
use Rattle.bag_facts.proofs.Common.{Contains, Refused, TreeState, memory_then, FileEntry, Stop, TreeFault, Changed, Memory}
use Rattle.bag_facts.proofs.Common.{IsOutOfMemory, IsRefusalOf, MayRefuseFacts, paths_of}
use Rattle.std.proofs.lemmas.List.Elements.{All-contains}
use Rattle.bag_facts.proofs.Reading.{later_refusal}
use Rattle.bag_facts.proofs.Refusing.{came_from, refused_file, told_memory}
use Rattle.bag_facts.specs.StopsAmong.{IsRefusedAmong, StopsAmong}

-- ---- the file that was refused

module _ (old new : TreeState) (path : List ℕ) where
  pub is_among : (paths : List (List ℕ)) → IsRefusedAmong paths old new path → Contains paths path
  is_among paths (before, after, same, refused) =
      subst (λ (xs : List (List ℕ)). Contains xs path) (sym same)
      (contains_back before (path ∷ after) path (contains_first path after))

  -- others were to be opened after them
  pub refused_front : (paths others : List (List ℕ)) → IsRefusedAmong paths old new path
      → IsRefusedAmong (paths ++ others) old new path
  refused_front paths others (before, after, same, refused) =
      (before, after ++ others, ap (λ xs. xs ++ others) same ∙ append_assoc before (path ∷ after) others, refused)

  -- others had been opened before them
  pub refused_back : (mid : TreeState) (opened paths : List (List ℕ)) → mid.openings ≡ old.openings ++ opened
      → IsRefusedAmong paths mid new path → IsRefusedAmong (opened ++ paths) old new path
  refused_back mid opened paths so_far (before, after, same, refused) = (
    opened ++ before,
    after,
    ap (λ xs. opened ++ xs) same ∙ sym (append_assoc opened before (path ∷ after)),
    subst (λ all. IsRefusedAt all path new)
        (ap (λ xs. xs ++ before) so_far ∙ append_assoc old.openings opened before) refused,
  )

-- ---- why it stops

-- out of memory stops it
pub stop_of_memory : (files : List FileEntry) (old new : TreeState) (stop : Stop) → IsOutOfMemory stop
    → MayReportMemory old new → StopsAmong files old new stop
stop_of_memory files old new stop memory told =
    record {
      cause = λ are. rw memory.0 tt;
      answered = rw memory.0 tt;
      path = inl memory;
      out_of_memory = λ _. told;
    }

one_is : (P : FileEntry → Type 0) (entry : FileEntry) → All P (entry ∷ []) → P entry
one_is P entry all = All-contains P (entry ∷ []) entry all (contains_first entry [])

-- and so does the refusal of a file
pub stop_of_whole : (entry : FileEntry) (old new : TreeState) (cause : TreeFault) (stop : Stop)
    → MayRefuseWhole old new entry cause → (cause ≡ Memory → MayReportMemory old new)
    → (cause ≢ Memory → IsRefusedAt old.openings entry.path new)
    → IsRefusalOf cause entry.path stop → StopsAmong (entry ∷ []) old new stop
stop_of_whole entry old new cause stop refused told opened (inl (not, same, at)) = record {
  cause =
      λ are. subst (MayRefuseFacts old new) (sym same)
      (refused_file old new entry cause (λ honest. one_is (IsEntryOf old.bag) entry (are honest)) refused);
  answered = subst (CameFromFile new) (sym same) (came_from old new entry cause refused);
  path =
      inr (
        [],
        [],
        ap (λ path. path ∷ []) (sym at),
        subst (λ all. IsRefusedAt all stop.path new) (sym (append-nil old.openings))
            (subst (λ path. IsRefusedAt old.openings path new) (sym at) (opened not)),
      );
  out_of_memory = λ m. absurd (not (sym same ∙ m));
}
stop_of_whole entry old new cause stop refused told opened (inr (is, m)) =
    stop_of_memory (entry ∷ []) old new stop m (told is)

pub stop_of_refusal : (entry : FileEntry) (old new : TreeState) (cause : TreeFault) (stop : Stop)
    → MayRefuseWhole old new entry cause → (cause ≢ Changed → new.last ≡ Refused cause)
    → IsRefusedAt old.openings entry.path new → IsRefusalOf cause entry.path stop
    → StopsAmong (entry ∷ []) old new stop
stop_of_refusal entry old new cause stop refused answered opened is =
    stop_of_whole entry old new cause stop refused (told_memory old new cause answered) (λ _. opened) is

-- a stop at a file, when those before it had been read, is one among all
module _ (files before after : List FileEntry) (entry : FileEntry) (old mid new : TreeState)
    (all : files ≡ before ++ entry ∷ after) (keeps : Keeps old mid) (calm : NothingFailed old mid)
    (opened : mid.openings ≡ old.openings ++ paths_of before) where
  at_it : (path : List ℕ) → IsRefusedAmong (entry.path ∷ []) mid new path
      → IsRefusedAmong (paths_of files) old new path
  at_it path at =
      subst (λ paths. IsRefusedAmong paths old new path)
      (sym (ap paths_of all ∙ map-append (λ (e : FileEntry). e.path) before (entry ∷ after)))
      (refused_back old new path mid (paths_of before) (entry.path ∷ paths_of after) opened
      (refused_front mid new path (entry.path ∷ []) (paths_of after) at))

  its_entry : (IsTrue old.honest → All (IsEntryOf old.bag) files) → IsTrue mid.honest
      → All (IsEntryOf mid.bag) (entry ∷ [])
  its_entry are honest =
      All-cons (IsEntryOf mid.bag) entry []
      (subst (λ bag. IsEntryOf bag entry) (sym keeps.bag)
      (All-contains (IsEntryOf old.bag) files entry (are (sym keeps.honest ∙ honest))
      (subst (λ (xs : List FileEntry). Contains xs entry) (sym all)
      (contains_back before (entry ∷ after) entry (contains_first entry after)))))
      (All-nil (IsEntryOf mid.bag))

  pub stop_later : (stop : Stop) → StopsAmong (entry ∷ []) mid new stop → StopsAmong files old new stop
  stop_later stop h = record {
    cause = λ are. later_refusal old mid new stop.cause keeps (h.cause (its_entry are));
    answered = h.answered;
    path = elim h.path [ inl memory ↦ inl memory | inr at ↦ inr (at_it stop.path at) ];
    out_of_memory = λ m. memory_then old mid new calm (h.out_of_memory m);
  }
