-- What runs wrote over the parts of one bag is joined into what one run writes.
use Rattle.std.proofs.Common.{◌≡◌, ℕ, zero, suc, ◌<◌, ◌++◌, ◌∷◌, List, [], Option, None, Some, Contains, inl, inr}
use Rattle.std.proofs.Common.{length, get_or, map, refl, sym, ap, ◌∙◌, subst, arith, length-append}
use Rattle.std.specs.List.{concat, range_with_len}
use Rattle.std.specs.List.Sorted.{IsPermutation}
use Rattle.std.specs.Io.KnownBytes.{Appends}
use Rattle.std.proofs.lemmas.List.{ext_get_or, get_or_append_left, length-map}
use Rattle.std.specs.List.Sorted.{IsStrictlySortedBy}
use Rattle.std.proofs.lemmas.Bool.{cases_eq}
use Rattle.bag_tree.specs.Bag.{Bag}
use Rattle.bag_tree.specs.declared.listing.FileEntry.{FileEntry}
use Rattle.bag_faults.specs.FaultOrder.{fault_cmp}
use Rattle.bag_faults.specs.Part.{Part}
use Rattle.bag_faults.specs.declared.fault.Fault.{Fault}
use Rattle.bag_profile.specs.Profile.{Profile}
use Rattle.bag_report.specs.Report.{IsReport}
use Rattle.bag_walk.proofs.PartLines.{done_part_is_written, parts_write_report}
use Rattle.bag_walk.proofs.PartsOfRun.{run_is_its_parts}
use Rattle.bag_walk.specs.Closing.{closing}
use Rattle.bag_walk.specs.Ending.{ended, written}
use Rattle.bag_reports.specs.DoneLine.{line_for}
use Rattle.bag_reports.specs.declared.done_line.Subject.{Subject}
use Rattle.bag_walk.specs.PartRuns.{first_counts, first_lines}
use Rattle.bag_sources.specs.Parts.{AreFilesIn, part_of}
use Rattle.bag_walk.specs.Run.{check_of}
use Rattle.bag_walk.specs.declared.outcome.Request.{Request}
use Rattle.bag_reports.specs.Head.{head_of}
use Rattle.bag_join.specs.Findings.{faults_at, file_at}
use Rattle.bag_join.specs.Join.{all_faults, full_closing, part_report}
use Rattle.bag_join.specs.Laws.{Finds, PartsAreWhole, RunWritesJoined, WritesReport, faults_of_parts, findings_of}
use Rattle.bag_join.proofs.Joined.{part_numbered}
use Rattle.bag_join.proofs.LawsHold.{closes_as_one_check, parts_of_report_join}
use Rattle.bag_join.proofs.Placing.{order_is}

module _ (files : List FileEntry) (parts : ℕ) (report : List Fault) where
  parts_are : (k : ℕ) → length (faults_of_parts files parts report k) ≡ k
  parts_are zero = refl
  parts_are (suc k) =
      let one = length-append (faults_of_parts files parts report k)
      (part_of files (part_numbered k parts) report ∷ []) in
      let less = parts_are k in
      omega arith

  part_at : (n k : ℕ) → k < n → get_or (faults_of_parts files parts report n) k [] ≡ part_of files (part_numbered k parts) report
  part_at zero k less = absurd (omega arith)
  part_at (suc n) k less =
      let before = faults_of_parts files parts report n in
      let last = part_of files (part_numbered n parts) report in
      let size = parts_are n in
      elim (cases_eq k n) as (λ _. get_or (before ++ last ∷ []) k [] ≡ part_of files (part_numbered k parts) report) [
        | inl same ↦
            ap (λ m. get_or (before ++ last ∷ []) m []) (same ∙ sym size)
            ∙ get_or_at before last
            ∙ ap (λ m. part_of files (part_numbered m parts) report) (sym same)
        | inr other ↦ get_or_append_left before (last ∷ []) [] k (omega arith) ∙ part_at n k (omega arith)
      ]
    where
      get_or_at : (xs : List (List Fault)) (x : List Fault) → get_or (xs ++ x ∷ []) (length xs) [] ≡ x
      get_or_at [] x = refl
      get_or_at (y ∷ xs) x = get_or_at xs x

took_text : (before after : Option (List ℕ)) (head text more : List ℕ) → before ≡ Some head → after ≡ Some text
    → Appends before after more → text ≡ head ++ more
took_text before after head text more began took appends =
    let kept : Appends (Some head) (Some text) more = rw (began, took) at appends in kept

-- what a run over a part wrote
abbrev subject_of : Request → Option (List ℕ) → List FileEntry → Subject
subject_of request sum files = (findings_of request sum files 0 [] []).subject

written_is : (bag : Bag) (profile : Option Profile) (sum : Option (List ℕ)) (request : Request)
    (files : List FileEntry) (report : List Fault)
    (part : Part) (keys : List (List ℕ)) (text : List ℕ) → Finds bag profile sum request files report
    → WritesReport bag profile sum request part keys text
    → text ≡ head_of keys ++ part_report (subject_of request sum files) part (part_of files part report)
written_is bag profile sum request files report part keys text finds wrote =
    let of_bag : bag ≡ wrote.old.bag = sym wrote.of_bag in
    let done = done_part_is_written wrote.old wrote.new profile sum part request wrote.before wrote.after wrote.n wrote.listed
    wrote.run finds.from_first wrote.honest report
    (subst (λ b. IsReport (check_of b profile request) report) of_bag finds.is) files
    (subst (λ b. AreFilesIn b files) of_bag finds.of_files) in
    took_text wrote.before.taken wrote.after.taken (head_of keys) text _ wrote.head wrote.took done.2
    ∙ ap (λ n. head_of keys
    ++ (concat (written (part_of files part report)) ++ line_for (subject_of request sum files) part n)) done.0

pub parts_are_whole : PartsAreWhole
parts_are_whole bag profile sum request files report parts reports order keys finds some most honest count as_many
    each_once are_keys wrote =
    let findings = findings_of request sum files parts report keys in
    let size = parts_are files parts report parts in
    let is = order_is parts order each_once in
    let long = is.size in
    let joined = parts_of_report_join files parts report finds.of_files.ordered some finds.is.ascending in
    let text : (j : ℕ) → j < length reports.held → get_or reports.held j [] ≡ get_or (map (file_at findings) order) j [] =
    λ j inside.
    let k = get_or order j 0 in
    let below : k < parts = is.below j (omega arith) in
    written_is bag profile sum request files report (part_numbered k parts) (get_or keys k []) (get_or reports.held j []) finds
    (wrote j (omega arith))
    ∙ ap (λ faults. head_of (get_or keys k []) ++ part_report (subject_of request sum files) (part_numbered k parts) faults)
    (sym (part_at files parts report parts k below))
    ∙ ap (λ n. head_of (get_or keys k [])
    ++ part_report (subject_of request sum files) (part_numbered k n) (faults_at findings k)) (sym size)
    ∙ sym (map_at (file_at findings) order j (omega arith)) in
    record {
      are =
          record {
            some = omega arith;
            most = omega arith;
            subject =
                record { name = finds.name; files = finds.count; bytes = finds.bytes; profile = finds.sum_is };
            few = let short = finds.few in omega (arith, ap length joined);
            are_faults = λ f has. finds.faults f (subst (λ l. Contains l f) joined has);
            in_order = subst (λ l. IsStrictlySortedBy fault_cmp l) (sym joined) finds.is.ascending;
            keys = λ k inside. (are_keys k (omega arith)).0;
            few_keys = λ k inside. (are_keys k (omega arith)).1;
          };
      honest = honest;
      count = count;
      order = order;
      each_once = subst (λ n. IsPermutation (range_with_len 0 n) order) (sym size) each_once;
      held =
          ext_get_or [] reports.held (map (file_at findings) order)
          (as_many ∙ sym long ∙ sym (length-map order (file_at findings))) text;
    }
  where
    map_at : (f : ℕ → List ℕ) (xs : List ℕ) (j : ℕ) → j < length xs → get_or (map f xs) j [] ≡ f (get_or xs j 0)
    map_at f [] j inside = absurd (omega arith)
    map_at f (x ∷ xs) zero inside = refl
    map_at f (x ∷ xs) (suc j) inside = map_at f xs j (omega arith)

pub run_writes_joined : RunWritesJoined
run_writes_joined old new profile sum request before after outcome files report parts keys honest finds some deep loud run reached =
    let one = run_is_its_parts old new profile request before after outcome parts run finds.from_first reached some honest
    report finds.is files finds.of_files in
    let both = parts_write_report files parts report finds.of_files.ordered some finds.is.ascending in
    let joined = parts_of_report_join files parts report finds.of_files.ordered some finds.is.ascending in
    let all : List Fault = all_faults (faults_of_parts files parts report parts) in
    let counted : first_counts files parts report parts ≡ length all = both.1 ∙ ap length (sym joined) in
    let lines : first_lines files parts report parts ≡ concat (written all) =
    both.0 ∙ ap (λ faults. concat (written faults)) (sym joined) in
    let ends = one.0 ∙ ap (λ n. ended None n) counted in
    let closes : closing request outcome ≡ full_closing request.name (length all) =
    ap (λ o. closing request o) ends ∙ closes_as_one_check request (length all) deep loud in (
      ends,
      subst (λ text. Appends before.taken after.taken text)
          (ap (λ front. front ++ closing request outcome) lines ∙ ap (λ end. concat (written all) ++ end) closes) one.1,
    )
