-- What stands on the output after a refusal.
use Rattle.std.proofs.Common.{◌≡◌, ◌≢◌, ℕ, zero, suc, ◌<◌, ◌++◌, List, [], Option, None, length, refl, sym, ◌∙◌}
use Rattle.std.proofs.Common.{subst, arith, decimal, inl, inr, ◌⊎◌, length-append, codes}
use Rattle.std.specs.List.{concat}
use Rattle.std.specs.Io.KnownBytes.{Appends}
use Rattle.std.proofs.lemmas.List.{take-append-le, take_all}
use Rattle.bag_tree.proofs.Writing.{Appends-nil, append-IsCut, IsCut-append}
use Rattle.bag_tree.specs.Out.{IsCut, OutState}
use Rattle.bag_faults.specs.FaultLine.{field}
use Rattle.bag_faults.specs.declared.fault.Fault.{Fault}
use Rattle.bag_walk.specs.Ending.{written}
use Rattle.bag_reports.specs.Faults.{LeavesLines, WritesFaults}
use Rattle.bag_reports.specs.declared.refusal.Cause.{Cause}
use Rattle.bag_reports.specs.declared.refusal.Cause.TheVariants.{Output}
use Rattle.bag_join.specs.Join.{IsLeft, full_closing, full_report}

which_cause : (cause : Cause) → (cause ≡ Output) ⊎ (cause ≢ Output)
which_cause Output = inl refl
which_cause cause = inr (λ same. cc)

-- no closing line is empty
closing_some : (name : List ℕ) (n : ℕ) → 0 < length (full_closing name n)
closing_some name zero = omega (arith, length-append (field name) (codes " is valid\n"))
closing_some name (suc n) =
    omega (
      arith,
      length-append (field name) (codes " has faults: " ++ (decimal (suc n) ++ codes "\n")),
      length-append (codes " has faults: ") (decimal (suc n) ++ codes "\n"),
    )

lines_cut : (before after : OutState) (lines closing : List ℕ) → 0 < length closing
    → Appends before.taken after.taken lines → IsCut before.taken after.taken (lines ++ closing)
lines_cut before after lines closing some wrote = (
  length lines,
  omega (arith, length-append lines closing),
  subst (λ text. Appends before.taken after.taken text)
      (sym (take-append-le (length lines) lines closing (omega arith) ∙ take_all (length lines) lines (omega arith)))
      wrote,
)

-- no closing line was written
pub report_left : (cause : Cause) (name : List ℕ) (before after : OutState) → LeavesLines cause None before after
    → IsLeft cause before after
report_left cause name before after left =
    let n = length left.faults in
    record {
      name = name;
      faults = left.faults;
      in_order = left.in_order;
      cut =
          elim (which_cause cause) as (λ _. IsCut before.taken after.taken (full_report name left.faults)) [
            | inl same ↦ IsCut-append before.taken after.taken (concat (written left.faults)) (full_closing name n) (left.cut same)
            | inr other ↦ lines_cut before after (concat (written left.faults)) (full_closing name n) (closing_some name n)
                (left.whole other)
          ];
      whole = left.whole;
    }

-- nothing was written
pub nothing_left : (cause : Cause) (out : OutState) → IsLeft cause out out
nothing_left cause out = record {
  name = [];
  faults = [];
  in_order = tt;
  cut = (0, closing_some [] 0, Appends-nil out.taken);
  whole = λ _. Appends-nil out.taken;
}

-- the closing line was cut
pub closing_left : (cause : Cause) (name : List ℕ) (last : Option Fault) (before mid after : OutState) (n : ℕ)
    (faults : List Fault) → cause ≡ Output → WritesFaults None last before mid n faults
    → IsCut mid.taken after.taken (full_closing name n) → IsLeft cause before after
closing_left cause name last before mid after n faults same wrote cut = record {
  name = name;
  faults = faults;
  in_order = wrote.in_order;
  cut =
      append-IsCut before.taken mid.taken after.taken (concat (written faults)) (full_closing name (length faults))
      wrote.wrote (subst (λ k. IsCut mid.taken after.taken (full_closing name k)) wrote.count cut);
  whole = λ other. absurd (other same);
}
