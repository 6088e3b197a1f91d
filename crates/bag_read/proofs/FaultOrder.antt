-- Line faults and their order.
use Rattle.bag_read.proofs.Common.{List, arith, refl, sym, ℕ, ◌<◌, ◌≡◌, eq-or-lt_of_le, cases_lt, nat_cmp_is, nat_cmp}
use Rattle.bag_read.proofs.Common.{Equal, Less, Code, line_fault, line_fault_cmp, LineFault}

-- a fault is its three parts
pub is_fault : (f : LineFault) (line : ℕ) (code : Code) (detail : List ℕ) → f.line ≡ line → f.code ≡ code
    → f.detail ≡ detail → f ≡ line_fault line code detail
is_fault f line code detail l c d = λ i. record { line = l i; code = c i; detail = d i }

pub less : (m n : ℕ) → m < n → nat_cmp m n ≡ Less
less m n h = sym (nat_cmp_is m n Less h)

pub same : (m n : ℕ) → m ≡ n → nat_cmp m n ≡ Equal
same m n h = sym (nat_cmp_is m n Equal h)

-- a number is lower than another where the order says so
pub lower : (m n : ℕ) → nat_cmp m n ≡ Less → m < n
lower m n e = grind (arith, cases_lt, eq-or-lt_of_le, same, less)

-- a fault of an earlier line
pub line_below : (f g : LineFault) → f.line < g.line → line_fault_cmp f g ≡ Less
line_below f g h = rw (less f.line g.line h) refl
