use Rattle.bag_words.proofs.Common.{◌≡◌, ◌∙◌, ap, map, subst, sym, App, HasKind, app_of, fault_of, is_simple}
use Rattle.bag_words.proofs.Common.{is_simple_and_free, matches_of}
use Rattle.std.specs.Prelude.{IfOk}
use Rattle.clap.specs.Words.{takes as clap_takes_by}
use Rattle.bag_words.proofs.OneKind.{fault_one}
use Rattle.bag_words.proofs.Declining.{declined_for}
use Rattle.bag_words.proofs.taking.taken.Goals as goal

pub returns-in-Ok-try_get_matches_from-clause-taken : goal.returns-in-Ok-try_get_matches_from-clause-taken
returns-in-Ok-try_get_matches_from-clause-taken c = λ app of plain.
    let words = map (λ word. word.now) c.args.words.now in
    let is = subst (λ r. IfOk r (λ command. app_of command ≡ app)) c.in-Ok.is of in
    let h = c.in-Ok-try_get_matches_from.ensures in (
      ap (λ (a : App). fault_of a words) (sym is) ∙ h.kinds (ap is_simple_and_free is ∙ plain.free),
      (h.matches (ap is_simple is ∙ plain.simple)).0 ∙ ap (λ (a : App). matches_of a words) is,
    )

pub returns-in-Err-clause-taken : goal.returns-in-Err-clause-taken
returns-in-Err-clause-taken c = λ app of plain.
    let words = map (λ word. word.now) c.args.words.now in
    let is = subst (λ r. IfOk r (λ command. app_of command ≡ app)) c.in-Ok.is of in
    declined_for (fault_of app words) (matches_of app words) c.in-Err.error c.answer_of.result
    (fault_one app words plain.alone plain.leaf)
    (subst (λ (a : App). HasKind (fault_of a words) c.in-Err.error) is
    (c.in-Err.ensures.kinds (ap is_simple_and_free is ∙ plain.free)))
    c.answer_of.ensures.kind
    c.answer_of.ensures.memory

pub returns-in-Err-clause-memory : goal.returns-in-Err-clause-memory
returns-in-Err-clause-memory c = λ app of takes.
    let words = map (λ word. word.now) c.args.words.now in
    let is = subst (λ r. IfOk r (λ command. app_of command ≡ app)) c.in-Ok.is of in
    c.answer_of.ensures.memory (c.in-Err.ensures.passes (ap (λ (a : App). clap_takes_by a words) is ∙ takes))
