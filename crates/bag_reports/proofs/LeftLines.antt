-- Lines of faults that stand on the output after a refusal.
use Rattle.std.proofs.Common.{◌≡◌, ◌≢◌, ◌↔◌, ℕ, ◌++◌, ◌∷◌, List, [], Option, sym, subst, codes}
use Rattle.std.specs.List.{concat}
use Rattle.std.specs.Io.KnownBytes.{Appends}
use Rattle.bag_tree.proofs.Writing.{Appends-append, Appends-nil, append-IsCut}
use Rattle.bag_tree.specs.Out.{IsCut, OutState}
use Rattle.bag_faults.specs.LineOf.{IsLineOf}
use Rattle.bag_faults.specs.declared.fault.Fault.{Fault}
use Rattle.bag_walk.specs.Ending.{written}
use Rattle.bag_reports.specs.Faults.{AreAfter, IsAfter, LeavesLines, WritesFaults}
use Rattle.bag_reports.specs.Input.{MayFail}
use Rattle.bag_reports.specs.Reports.{ReportsState}
use Rattle.bag_reports.specs.declared.refusal.Cause.{Cause}
use Rattle.bag_reports.specs.declared.refusal.Cause.TheVariants.{Output}
use Rattle.bag_reports.proofs.Faults.{one_written, after_joined, written_joined}

-- reading doesn't fail for the output
pub fails_other : (cause : Cause) (reports : ReportsState) → MayFail cause reports → cause ≢ Output
fails_other cause reports may same = subst (λ c. MayFail c reports) same may

-- all that was written is left
pub leaves_all : (cause : Cause) (last new_last : Option Fault) (before after : OutState) (n : ℕ) (faults : List Fault)
    → cause ≢ Output → WritesFaults last new_last before after n faults → LeavesLines cause last before after
leaves_all cause last new_last before after n faults other wrote = record {
  faults = faults;
  in_order = wrote.in_order;
  whole = λ _. wrote.wrote;
  cut = λ same. absurd (other same);
}

-- nothing was written
pub leaves_none : (cause : Cause) (last : Option Fault) (out : OutState) → cause ≢ Output
    → LeavesLines cause last out out
leaves_none cause last out other = record {
  faults = [];
  in_order = tt;
  whole = λ _. Appends-nil out.taken;
  cut = λ same. absurd (other same);
}

-- the line of the next fault was cut
pub leaves_cut : (cause : Cause) (last new_last : Option Fault) (before mid after : OutState) (n : ℕ)
    (faults : List Fault) (f : Fault) (line ended : List ℕ) → cause ≡ Output
    → WritesFaults last new_last before mid n faults → IsLineOf line f → IsAfter new_last f
    → ended ≡ line ++ codes "\n" → IsCut mid.taken after.taken ended → LeavesLines cause last before after
leaves_cut cause last new_last before mid after n faults f line ended same wrote is above ends cut = record {
  faults = faults ++ f ∷ [];
  in_order =
      after_joined last faults (f ∷ []) wrote.in_order
      (is.fault, subst (λ o. IsAfter o f) wrote.last_is above, tt);
  whole = λ other. absurd (other same);
  cut = λ _.
      subst (λ text. IsCut before.taken after.taken text) (sym (written_joined faults (f ∷ [])))
      (append-IsCut before.taken mid.taken after.taken (concat (written faults)) (concat (written (f ∷ []))) wrote.wrote
      (subst (λ text. IsCut mid.taken after.taken text) (one_written f line ended is ends) cut));
}

-- what is left after other faults
pub leaves_on : (cause : Cause) (last new_last : Option Fault) (before mid after : OutState) (n : ℕ)
    (faults : List Fault) → WritesFaults last new_last before mid n faults → LeavesLines cause new_last mid after
    → LeavesLines cause last before after
leaves_on cause last new_last before mid after n faults wrote left = record {
  faults = faults ++ left.faults;
  in_order =
      after_joined last faults left.faults wrote.in_order
      (subst (λ o. AreAfter o left.faults) wrote.last_is left.in_order);
  whole = λ other.
      subst (λ text. Appends before.taken after.taken text) (sym (written_joined faults left.faults))
      (Appends-append before.taken mid.taken after.taken (concat (written faults)) (concat (written left.faults)) wrote.wrote
      (left.whole other));
  cut = λ same.
      subst (λ text. IsCut before.taken after.taken text) (sym (written_joined faults left.faults))
      (append-IsCut before.taken mid.taken after.taken (concat (written faults)) (concat (written left.faults)) wrote.wrote
      (left.cut same));
}

-- so it is for another cause that is of the output if that one is
pub leaves_as : (cause other : Cause) (last : Option Fault) (before after : OutState)
    → other ≡ Output ↔ cause ≡ Output → LeavesLines cause last before after → LeavesLines other last before after
leaves_as cause other last before after both left = record {
  faults = left.faults;
  in_order = left.in_order;
  whole = λ apart. left.whole (λ same. apart (both.1 same));
  cut = λ same. left.cut (both.0 same);
}
