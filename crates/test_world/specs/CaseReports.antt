-- The reports of a case.
use Rattle.std.specs.Prelude.{false, [], vec_len}
use Rattle.bag_reports.specs.Reports.{ReportsState}
use Rattle.test_world.specs.declared.case_reports.CaseReports.{CaseReports}

-- nothing is claimed of what they hold; so many there are, and this was read of them
abbrev pub case_reports_state : CaseReports → ReportsState
case_reports_state reports = record {
  count = vec_len reports.files;
  honest = false;
  held = [];
  open_one = reports.number;
  given = reports.given.bytes;
  earlier = reports.earlier.items;
  has_failed = reports.has_failed;
}
