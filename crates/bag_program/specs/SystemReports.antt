-- Reports in files of the system's.
use Rattle.std.specs.Prelude.{ℕ, false, [], vec_len}
use Rattle.bag_reports.specs.Reports.{ReportsState}
use Rattle.bag_program.specs.declared.system_reports.SystemReports.{SystemReports}

-- nothing is promised of what they hold; so many there are, and this was read of them
abbrev pub system_reports_state : {R F D : Type 0} → SystemReports R F D → ReportsState
system_reports_state reports = record {
  count = vec_len reports.paths;
  honest = false;
  held = [];
  open_one = reports.number;
  given = reports.given.bytes;
  earlier = reports.earlier.items;
  has_failed = reports.has_failed;
}

-- so many, as they are before one is opened
abbrev pub unread_reports : ℕ → ReportsState
unread_reports count = record {
  count = count;
  honest = false;
  held = [];
  open_one = count;
  given = [];
  earlier = [];
  has_failed = false;
}
