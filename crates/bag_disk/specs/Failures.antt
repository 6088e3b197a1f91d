-- How often a device has refused.
use Rattle.std.specs.Prelude.{ℕ, length}
use Rattle.bag_disk.specs.declared.failures.Failures.{Failures}

-- a byte was heard each time
abbrev pub failures_counted : Failures → ℕ
failures_counted failures = length failures.heard.bytes
