use Rattle.std.proofs.Common.{◌≡◌, ◌+◌, ◌∙◌, ℕ, List, []}
use Rattle.bag_reports.specs.DoneLine.{behind_bytes}
use Rattle.bag_reports.specs.declared.done_line.DoneLine.{DoneLine}
use Rattle.bag_reports.proofs.Closing.{from_bytes, from_files, from_of, name_cut, small_of, small_place}
use Rattle.bag_reports.proofs.done_line.numbers_of.Goals as goal

abbrev behind : DoneLine → List ℕ
behind said = behind_bytes said.subject.clashes said.subject.profile said.count

pub returns-in_default-clause-reads : goal.returns-in_default-clause-reads
returns-in_default-clause-reads c said is =
    let text = is.text_is ∙ name_cut said in
    absurd (rw c.in_default.is at (c.count_after.ensures (said.part.number + 1) (from_of said) (small_place said is.said_so) text))

pub returns-in_default-count_after-clause-reads : goal.returns-in_default-count_after-clause-reads
returns-in_default-count_after-clause-reads c said is =
    let text = is.text_is ∙ name_cut said in
    let place = rw c.in-Some.is at (c.count_after.ensures (said.part.number + 1) (from_of said) (small_place said is.said_so) text) in
    absurd (rw c.in_default-count_after.is at (c.count_after-2.ensures said.part.of (from_files said) (small_of said is.said_so) place.1))

pub returns-in_default-count_after-2-clause-reads : goal.returns-in_default-count_after-2-clause-reads
returns-in_default-count_after-2-clause-reads c said is =
    let text = is.text_is ∙ name_cut said in
    let place = rw c.in-Some.is at (c.count_after.ensures (said.part.number + 1) (from_of said) (small_place said is.said_so) text) in
    let of = rw c.in-Some-count_after.is at (c.count_after-2.ensures said.part.of (from_files said) (small_of said is.said_so) place.1) in
    absurd (rw c.in_default-count_after-2.is at (c.count_after-3.ensures said.subject.listed.files (from_bytes said) is.said_so.subject.files of.1))

pub returns-in_default-number_after-clause-reads : goal.returns-in_default-number_after-clause-reads
returns-in_default-number_after-clause-reads c said is =
    let text = is.text_is ∙ name_cut said in
    let place = rw c.in-Some.is at (c.count_after.ensures (said.part.number + 1) (from_of said) (small_place said is.said_so) text) in
    let of = rw c.in-Some-count_after.is at (c.count_after-2.ensures said.part.of (from_files said) (small_of said is.said_so) place.1) in
    let files = rw c.in-Some-count_after-2.is at (c.count_after-3.ensures said.subject.listed.files (from_bytes said) is.said_so.subject.files of.1) in
    absurd (rw c.in_default-number_after.is at (c.number_after.ensures said.subject.listed.bytes (behind said) is.said_so.subject.bytes files.1))

pub returns-in_default-profile_after-clause-reads : goal.returns-in_default-profile_after-clause-reads
returns-in_default-profile_after-clause-reads c said is =
    let text = is.text_is ∙ name_cut said in
    let place = rw c.in-Some.is at (c.count_after.ensures (said.part.number + 1) (from_of said) (small_place said is.said_so) text) in
    let of = rw c.in-Some-count_after.is at (c.count_after-2.ensures said.part.of (from_files said) (small_of said is.said_so) place.1) in
    let files = rw c.in-Some-count_after-2.is at (c.count_after-3.ensures said.subject.listed.files (from_bytes said) is.said_so.subject.files of.1) in
    let bytes = rw c.in-Some-number_after.is at (c.number_after.ensures said.subject.listed.bytes (behind said) is.said_so.subject.bytes files.1) in
    let asked = c.clashes_after-clashes.ensures said.subject.clashes said.subject.profile said.count bytes.1 in
    absurd (rw c.in_default-profile_after.is at (c.profile_after.ensures.reads said.subject.profile said.count is.said_so.subject.profile asked.1))

pub returns-in_default-count_after-3-clause-reads : goal.returns-in_default-count_after-3-clause-reads
returns-in_default-count_after-3-clause-reads c said is =
    let text = is.text_is ∙ name_cut said in
    let place = rw c.in-Some.is at (c.count_after.ensures (said.part.number + 1) (from_of said) (small_place said is.said_so) text) in
    let of = rw c.in-Some-count_after.is at (c.count_after-2.ensures said.part.of (from_files said) (small_of said is.said_so) place.1) in
    let files = rw c.in-Some-count_after-2.is at (c.count_after-3.ensures said.subject.listed.files (from_bytes said) is.said_so.subject.files of.1) in
    let bytes = rw c.in-Some-number_after.is at (c.number_after.ensures said.subject.listed.bytes (behind said) is.said_so.subject.bytes files.1) in
    let asked = c.clashes_after-clashes.ensures said.subject.clashes said.subject.profile said.count bytes.1 in
    let sum = rw c.in-Some-profile_after.is at (c.profile_after.ensures.reads said.subject.profile said.count is.said_so.subject.profile asked.1) in
    absurd (rw c.in_default-count_after-3.is at (c.count_after-4.ensures said.count [] is.said_so.count sum.1))

pub returns-in_default-part_at-clause-reads : goal.returns-in_default-part_at-clause-reads
returns-in_default-part_at-clause-reads c said is =
    let text = is.text_is ∙ name_cut said in
    let place = rw c.in-Some.is at (c.count_after.ensures (said.part.number + 1) (from_of said) (small_place said is.said_so) text) in
    let of = rw c.in-Some-count_after.is at (c.count_after-2.ensures said.part.of (from_files said) (small_of said is.said_so) place.1) in
    let part = c.part_at.ensures said.part is.said_so.part place.0 of.0 in
    let none = c.in_default-part_at.is in
    cc

pub returns-clause-reads : goal.returns-clause-reads
returns-clause-reads c said is =
    let text = is.text_is ∙ name_cut said in
    let place = rw c.in-Some.is at (c.count_after.ensures (said.part.number + 1) (from_of said) (small_place said is.said_so) text) in
    let of = rw c.in-Some-count_after.is at (c.count_after-2.ensures said.part.of (from_files said) (small_of said is.said_so) place.1) in
    let files = rw c.in-Some-count_after-2.is at (c.count_after-3.ensures said.subject.listed.files (from_bytes said) is.said_so.subject.files of.1) in
    let bytes = rw c.in-Some-number_after.is at (c.number_after.ensures said.subject.listed.bytes (behind said) is.said_so.subject.bytes files.1) in
    let asked = c.clashes_after-clashes.ensures said.subject.clashes said.subject.profile said.count bytes.1 in
    let sum = rw c.in-Some-profile_after.is at (c.profile_after.ensures.reads said.subject.profile said.count is.said_so.subject.profile asked.1) in
    let count = rw c.in-Some-count_after-3.is at (c.count_after-4.ensures said.count [] is.said_so.count sum.1) in
    let part = c.part_at.ensures said.part is.said_so.part place.0 of.0 in
    let found = c.in-Some-part_at.is in
    let same : c.in-Some-part_at.part ≡ said.part = cc in
    record {
      part = same;
      listed = λ i. record { files = files.0 i; bytes = bytes.0 i };
      clashes = asked.0;
      profile = sum.0;
      count = count.0;
    }
