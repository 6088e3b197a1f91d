use Rattle.bag_report.proofs.TagFiles.{tag_files_all}
use Rattle.bag_report.proofs.tag_files.tag_file_faults.Goals as goal

pub returns : goal.returns
returns c = λ bag facts deep.
    tag_files_all bag c.args.profile.now c.in_ok-faults.faults.items c.in_ok-other_tag_files.field-0.items
    c.in_ok-fetch_faults.field-0.items c.append.new.self.items c.append-2.new.self.items
    c.in_ok-append.ensures.items c.in_ok-append-2.ensures.items (c.in_ok-faults.ensures bag facts)
    (c.in_ok-other_tag_files.ensures bag facts) (c.in_ok-fetch_faults.ensures bag facts)
