-- The lines of parts of a report.
use Rattle.bag_walk.proofs.Common.{◌≡◌, ◌+◌, ◌++◌, ◌∙◌, inl, inr, ℕ, zero, suc, List, length, refl, sym, ap, arith, concat}
use Rattle.bag_walk.proofs.Common.{OutState, Fault, FileEntry, written, IsSegment, SegmentEnd, take_all}
use Rattle.bag_walk.proofs.Common.{Appends, length-append, map-append, written_line, EndsSegment, WroteFirst, take}
use Rattle.bag_walk.proofs.Common.{[], ◌∷◌, Bool, true, false, None, Some, filter, cond, subst, above, first}
use Rattle.bag_walk.proofs.Common.{is_above, limit_of, fault_cmp, IsStrictlySortedBy-filter, IsTrue, Option, Profile}
use Rattle.bag_walk.proofs.Common.{Request, TreeState}
use Rattle.bag_walk.proofs.OneList.{one_list_of_files}
use Rattle.bag_sources.proofs.Parts.{parts_join}
use Rattle.bag_sources.proofs.Places.{cursor_cuts_list}
use Rattle.bag_walk.proofs.RunLines.{concat_joined}
use Rattle.bag_sources.proofs.Positions.{above_none}
use Rattle.bag_tree.proofs.Writing.{Appends-append}
use Rattle.bag_walk.specs.PartRuns.{CursorCutsPart, DonePartIsWritten, IsRunOfPart, OneListIsTold, PartsWriteReport}
use Rattle.bag_walk.specs.PartRuns.{PutsPartClosing, done_line, first_counts, first_lines, part_outcome}
use Rattle.bag_sources.specs.Parts.{AreFilesIn, bounds_of, first_parts, is_within, listed_of, part_of}
use Rattle.bag_sources.specs.declared.part.Listed.{Listed}
use Rattle.bag_faults.specs.Part.{Part}
use Rattle.bag_walk.specs.declared.part_run.PartOutcome.TheVariants.{Done}
use Rattle.bag_walk.specs.declared.segment.SegmentEnd.TheVariants.{Full, AtEnd, Unread, Unwritten}

-- the lines of a segment that came to the end, and a closing line
module _ (request : Request) (sum : Option (List ℕ)) (part : Part) (faults : List Fault) (limit n : ℕ) (told : Listed)
    (before lines after : OutState) where
  abbrev line : Listed → ℕ → List ℕ
  line listed k = done_line request.name part listed request.options.clashes sum k

  -- a part is done where its segment came to the end, and its closing line was taken
  ended_by : (cursor : Option Fault) (listed : Listed) (k : ℕ) (end : SegmentEnd)
      → PutsPartClosing request sum part (part_outcome cursor listed k end) lines after (Done n told)
      → (end ≡ AtEnd) × (n ≡ k) × (told ≡ listed)
      × Appends lines.taken after.taken (line listed k)
  ended_by (Some fault) listed k AtEnd (inl (same, closed)) = cc
  ended_by (Some fault) listed k AtEnd (inr (same, refused, cut)) = cc
  ended_by None listed k AtEnd (inl (same, closed)) =
      let count : n ≡ k = cc in let of : told ≡ listed = cc in (refl, count, of, closed)
  ended_by None listed k AtEnd (inr (same, refused, cut)) = cc
  ended_by cursor listed k Full (inl (same, closed)) = cc
  ended_by cursor listed k Full (inr (same, refused, cut)) = cc
  ended_by cursor listed k (Unread stop) (inl (same, closed)) = cc
  ended_by cursor listed k (Unread stop) (inr (same, refused, cut)) = cc
  ended_by cursor listed k Unwritten (inl (same, closed)) = cc
  ended_by cursor listed k Unwritten (inr (same, refused, cut)) = cc

  done_by : (listed : Listed) (k : ℕ) (end : SegmentEnd) → EndsSegment faults limit k end
      → WroteFirst faults k before lines end
      → (end ≡ AtEnd) × (n ≡ k) × (told ≡ listed)
      × Appends lines.taken after.taken (line listed k)
      → (n ≡ length faults)
      × Appends before.taken after.taken (concat (written faults) ++ line told n)
  done_by listed k end ends wrote (at_end, count, of, closed) =
      let ends_so = rw at_end at ends in
      let all : take k faults ≡ faults = take_all k faults (omega (arith, ends_so.1)) in (
        count ∙ ends_so.1,
        rw (count, of)
            (Appends-append before.taken lines.taken after.taken (concat (written faults))
            (line listed k) (rw all at (rw at_end at wrote)) closed),
      )

-- what a part tells that is done
module _ {old new : TreeState} {profile : Option Profile} {sum : Option (List ℕ)} {part : Part} {request : Request}
    {before after : OutState} {n : ℕ} {told : Listed}
    (run : IsRunOfPart old new profile sum part request before after (Done n told)) where
  pub ends : (run.segment.end ≡ AtEnd) × (n ≡ run.segment.written) × (told ≡ run.listed)
      × Appends run.lines.taken after.taken
      (done_line request.name part run.listed request.options.clashes sum run.segment.written)
  ends =
      ended_by request sum part [] 0 n told before run.lines after request.after run.listed run.segment.written run.segment.end
      run.closes

  pub tells : IsTrue old.honest → (files : List FileEntry) → AreFilesIn old.bag files → told ≡ listed_of files
  tells honest files are =
      let (listing, ordered, of, is) = run.counts ends.0 in
      ends.2 ∙ is
      ∙ ap listed_of
      (one_list_of_files old.bag listing.files files
      (record { ordered = ordered; sizes = (of honest).files }) are)

pub done_part_is_written : DonePartIsWritten
done_part_is_written old new profile sum part request before after n told run from_first honest report is files are =
    let all : above request.after report ≡ report =
    ap (λ cursor. above cursor report) from_first ∙ sym (above_none report) in
    let s =
    subst (λ faults. IsSegment (part_of files part faults) (limit_of request) before run.lines run.segment) all
    (run.faults honest report is files are) in
    let so = tells run honest files are in
    let done =
    done_by request sum part (part_of files part report) (limit_of request) n told before run.lines after run.listed
    run.segment.written run.segment.end s.ends s.wrote (ends run) in (
      done.0,
      so,
      subst (λ listed. Appends before.taken after.taken
          (concat (written (part_of files part report))
          ++ done_line request.name part listed request.options.clashes sum n)) so done.1,
    )

pub one_list_is_told : OneListIsTold
one_list_is_told old new profile sum part request before after n told old' new' profile' sum' part' request' before' after' n'
    told' files run run' honest honest' are are' = tells run honest files are ∙ sym (tells run' honest' files are')

-- what passes two tests, in either order
either_first : (p q : Fault → Bool) (b d : Bool) (f : Fault) (faults : List Fault) → p f ≡ b → q f ≡ d
    → filter p (filter q faults) ≡ filter q (filter p faults)
    → filter p (cond d (f ∷ filter q faults) (filter q faults)) ≡ filter q (cond b (f ∷ filter p faults) (filter p faults))
either_first p q true true f faults e g rest = rw (e, g) (ap (λ l. f ∷ l) rest)
either_first p q true false f faults e g rest = rw g rest
either_first p q false true f faults e g rest = rw e rest
either_first p q false false f faults e g rest = rest

both_ways : (p q : Fault → Bool) (faults : List Fault) → filter p (filter q faults) ≡ filter q (filter p faults)
both_ways p q [] = refl
both_ways p q (f ∷ faults) = either_first p q (p f) (q f) f faults refl refl (both_ways p q faults)

pub cursor_cuts_part : CursorCutsPart
cursor_cuts_part files part report n f sorted at =
    let within : Fault → Bool = is_within (bounds_of files part) in
    ap (λ rest. first (n + 1) (part_of files part report) ++ rest) (both_ways within (is_above (Some f)) report)
    ∙ cursor_cuts_list (part_of files part report) n f (IsStrictlySortedBy-filter fault_cmp within report sorted) at

module _ (files : List FileEntry) (parts : ℕ) (report : List Fault) where
  lines_are : (k : ℕ) → first_lines files parts report k ≡ concat (written (first_parts files parts report k))
  lines_are zero = refl
  lines_are (suc k) =
      let part : List Fault = part_of files (record { number = k; of = parts }) report in
      let before : List Fault = first_parts files parts report k in
      ap (λ l. l ++ concat (written part)) (lines_are k)
      ∙ sym (ap concat (map-append written_line before part) ∙ concat_joined (written before) (written part))

  counts_are : (k : ℕ) → first_counts files parts report k ≡ length (first_parts files parts report k)
  counts_are zero = refl
  counts_are (suc k) =
      let part : List Fault = part_of files (record { number = k; of = parts }) report in
      ap (λ n. n + length part) (counts_are k) ∙ sym (length-append (first_parts files parts report k) part)

pub parts_write_report : PartsWriteReport
parts_write_report files parts report ordered some sorted =
    let whole = parts_join files parts report ordered some sorted in (
      lines_are files parts report parts ∙ ap (λ faults. concat (written faults)) whole,
      counts_are files parts report parts ∙ ap length whole,
    )
