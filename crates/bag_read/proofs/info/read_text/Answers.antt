use Rattle.bag_read.proofs.Common.{List, append_assoc, arith, ℕ, ◌∷◌, ◌≡◌, begins_with_blank, is_blank_line, Rules}
use Rattle.bag_read.proofs.Common.{split, Numbered, after_line, all_elements, all_faults, elements, faults, value_on}
use Rattle.bag_read.proofs.Common.{wrong}
use Rattle.bag_read.specs.declared.info_reader.Reader.{Reader}
use Rattle.bag_read.proofs.info.read_text.Goals as goal

-- A line moves what it makes from the lines that follow to what was read.

module _ (rules : Rules) where
  module _ (r : Reader) (n : ℕ) (line : List ℕ) (xs : Numbered) where
    elements_kept : all_elements rules (after_line rules r n line) xs ≡ all_elements rules r ((n, line) ∷ xs)
    elements_kept = grind (arith, is_blank_line, begins_with_blank, split, append_assoc, elements, value_on)

    faults_kept : all_faults rules (after_line rules r n line) xs ≡ all_faults rules r ((n, line) ∷ xs)
    faults_kept = grind (arith, is_blank_line, begins_with_blank, split, append_assoc, wrong, faults)

pub loop-number-preserved : goal.loop-number-preserved
loop-number-preserved c = grind (arith, elements_kept, faults_kept)
