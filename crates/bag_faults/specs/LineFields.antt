-- The fields of a fault's line.
use Rattle.std.specs.Prelude.{◌≡◌, decimal}
use Rattle.bag_text.specs.Code.{number}
use Rattle.bag_faults.specs.declared.fault.Fault.{Fault}
use Rattle.bag_faults.specs.declared.from_line.Fields.{Fields}
use Rattle.bag_faults.specs.FaultLine.{field, alg_field, line_field}

-- these are the fields of the fault's line
pub record AreFields (fault : Fault) (fields : Fields) : Type 0 where
  pub code : fields.code.now ≡ decimal (number fault.code)
  pub path : fields.path.now ≡ field fault.path
  pub alg : fields.alg.now ≡ alg_field fault.alg
  pub line : fields.line.now ≡ line_field fault.line
  pub detail : fields.detail.now ≡ field fault.detail
