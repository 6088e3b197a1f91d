use Rattle.bag_sources.proofs.Common.{◌≡◌, ◌∙◌, true, false, sym, subst, option_copied, paths_of, IsToSum, text_cmp, take_all}
use Rattle.bag_sources.proofs.Common.{IsStrictlySortedBy}
use Rattle.bag_sources.specs.Parts.{is_file_within}
use Rattle.bag_sources.proofs.Chosen.{none_chosen}
use Rattle.bag_sources.proofs.ChosenWithin.{one_added, one_left, one_passed_over}
use Rattle.bag_sources.proofs.files.files_to_sum.Goals as goal

pub loop-file-init : goal.loop-file-init
loop-file-init c = λ bag of full. rw c.new-files.ensures.items (none_chosen bag (option_copied c.args.after))

pub loop-file-preserved-then-not-has_file : goal.loop-file-preserved-then-not-has_file
loop-file-preserved-then-not-has_file c = λ bag of full.
    let bounds = c.args.bounds.now in
    let file = c.file-item.result in
    let out : is_file_within bounds file.path ≡ false = sym c.has_file.ensures ∙ c.if-not-has_file.true in
    one_left bounds c.files-file-items.result.now c.loop-file.file-index file c.loop-file-test.true c.file-item.is bag
    (option_copied c.args.after) c.loop-file.files.items (c.loop-file.invariant bag of full) out

pub loop-file-preserved-in_default : goal.loop-file-preserved-in_default
loop-file-preserved-in_default c = λ bag of full.
    let after = option_copied c.args.after in
    let bounds = c.args.bounds.now in
    let file = c.file-item.result in
    let within : is_file_within bounds file.path ≡ true = sym c.has_file.ensures ∙ c.if-not-has_file.false in
    one_passed_over bounds c.files-file-items.result.now c.loop-file.file-index file c.loop-file-test.true
    c.file-item.is bag after c.loop-file.files.items (c.loop-file.invariant bag of full) within
    (subst (IsToSum bag after file) c.in_default.is (c.in_ok-to_sum.ensures bag of full))

pub loop-file-preserved : goal.loop-file-preserved
loop-file-preserved c = λ bag of full.
    let after = option_copied c.args.after in
    let bounds = c.args.bounds.now in
    let files = c.files-file-items.result.now in
    let file = c.file-item.result in
    let within : is_file_within bounds file.path ≡ true = sym c.has_file.ensures ∙ c.if-not-has_file.false in
    let chosen = subst (IsToSum bag after file) c.in-Some.is (c.in_ok-to_sum.ensures bag of full) in
    let ordered : IsStrictlySortedBy text_cmp (paths_of files) = rw c.files-file-items.ensures of.ordered.ascending in
    rw c.in_ok-push.ensures.items
    (one_added bounds files c.loop-file.file-index file c.loop-file-test.true c.file-item.is bag after
    c.loop-file.files.items (c.loop-file.invariant bag of full) within ordered c.in-Some.to_sum chosen.0 chosen.1
    chosen.2)

pub returns-clause-files : goal.returns-clause-files
returns-clause-files c = λ bag of full.
    let files = c.files-file-items in
    rw (take_all c.loop-file.file-index files.result.now c.loop-file-test.false, files.ensures) at
    (c.loop-file.invariant bag of full)
