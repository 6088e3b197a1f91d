use Rattle.bag_stages.proofs.Common.{[], None, Some, refl, sym, ◌∙◌, subst, append-nil, Contains, IsListOf, fault_cmp}
use Rattle.bag_stages.proofs.Common.{first_of_form, IsClashOf, texts_of}
use Rattle.bag_stages.proofs.ByItem.{OfSome, no_items}
use Rattle.bag_stages.proofs.ClashFaults.{all_clashes, one_lent_more}
use Rattle.bag_stages.proofs.PayloadNames.{all_texts}
use Rattle.bag_stages.proofs.clashes.clashes_among.Goals as goal
use Rattle.bag_stages.proofs.clashes.clashes_among.Goals.{in-Some+in_ok-push, in_default}

pub loop-name-init : goal.loop-name-init
loop-name-init c = λ sorted. (
  (λ form. rw c.new-firsts.ensures.empty refl),
  rw c.new-faults.ensures.items (no_items (IsClashOf (Contains (texts_of c.args.names.now)))),
)

pub loop-name-preserved : goal.loop-name-preserved
loop-name-preserved c = λ sorted.
    let before = c.loop-name.faults.items in
    let more =
    one_lent_more c.args.names.now c.loop-name.name-index (record { ref_ptr = (0, 0); now = [] }) sorted
    c.loop-name-test.true
    (first_of_form c.loop-name.firsts) (first_of_form c.clash_of.new.firsts) before in
    elim c.match-branch-2.branch [
      | in-Some+in_ok-push w ↦ rw (w.faults-is, w.in_ok-push.ensures.items)
          (more (Some w.in-Some.fault) (c.loop-name.invariant sorted) (sym w.in-Some.is ∙ c.in_ok-fault.ensures.fault)
          c.in_ok-fault.ensures.firsts)
      | in_default w ↦ rw (w.faults-is, sym (append-nil before))
          (more None (c.loop-name.invariant sorted) (sym w.in_default.is ∙ c.in_ok-fault.ensures.fault)
          c.in_ok-fault.ensures.firsts)
    ]

pub returns : goal.returns
returns c = λ sorted.
    let names = c.args.names.now in
    all_clashes (texts_of names) c.loop-name.faults.items
    (subst (λ some. IsListOf fault_cmp (OfSome (IsClashOf (Contains (texts_of names))) some) c.loop-name.faults.items)
    (all_texts names c.loop-name.name-index c.loop-name-test.false) (c.loop-name.invariant sorted).1)
