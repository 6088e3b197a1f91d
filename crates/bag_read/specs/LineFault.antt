-- What is read of a tag file line by line, its faults, and their order: by line, code and detail.
use Rattle.std.specs.Prelude.{ℕ, List, [], Option, Some, None, Result, Ok, Err, if◌then◌else◌}
use Rattle.std.specs.Prelude.{filter_map}
use Rattle.std.specs.List.{enumerate_from}
use Rattle.std.specs.Result.{result_ok}
use Rattle.std.specs.declared.cmp.Ordering.{Ordering}
use Rattle.std.specs.Ordering.{nat_cmp, on, then_cmp}
use Rattle.bag_text.specs.Bytes.{Line}
use Rattle.bag_text.specs.Text.{text_cmp, is_blank_line}
use Rattle.bag_text.specs.Code.{number}
use Rattle.bag_text.specs.declared.code.Code.{Code}
use Rattle.bag_text.specs.declared.code.Code.TheVariants.{NotUtf8}
use Rattle.bag_text.specs.Order.{IsListOf}
use Rattle.bag_read.specs.Reason.{Reason}
use Rattle.bag_read.specs.declared.line_fault.LineFault.{LineFault}

abbrev pub line_fault : ℕ → Code → List ℕ → LineFault
line_fault line code detail = record { line = line; code = code; detail = detail }

-- the one fault of a file whose bytes aren't UTF-8
abbrev pub not_utf8 : LineFault
not_utf8 = line_fault 0 NotUtf8 []

abbrev pub line_fault_cmp : LineFault → LineFault → Ordering
line_fault_cmp =
    then_cmp (then_cmp (on (λ f. f.line) nat_cmp) (on (λ f. number f.code) nat_cmp))
    (on (λ f. f.detail) text_cmp)

-- the faults of a file that are exactly these, in line order
abbrev pub AreFaults : (LineFault → Type 0) → List LineFault → Type 0
AreFaults IsWrong faults = IsListOf line_fault_cmp IsWrong faults

-- the fault of a line that doesn't read
abbrev pub fault_in : {E : Type 0} → ℕ → Result E Reason → Option LineFault
fault_in n (Ok entry) = None
fault_in n (Err reason) = Some (line_fault n reason.0 reason.1)

-- what is read of a numbered line that isn't blank, and its fault, by what lines say
abbrev pub entry_of : {E : Type 0} → (ℕ → Line → Result E Reason) → ℕ × Line → Option E
entry_of reads x = if is_blank_line x.1 then None else result_ok (reads x.0 x.1)

abbrev pub fault_of : {E : Type 0} → (ℕ → Line → Result E Reason) → ℕ × Line → Option LineFault
fault_of reads x = if is_blank_line x.1 then None else fault_in x.0 (reads x.0 x.1)

-- what is read of lines, and their faults
abbrev pub entries_read : {E : Type 0} → (ℕ → Line → Result E Reason) → List Line → List E
entries_read reads all = filter_map (entry_of reads) (enumerate_from 1 all)

abbrev pub faults_read : {E : Type 0} → (ℕ → Line → Result E Reason) → List Line
    → List LineFault
faults_read reads all = filter_map (fault_of reads) (enumerate_from 1 all)
