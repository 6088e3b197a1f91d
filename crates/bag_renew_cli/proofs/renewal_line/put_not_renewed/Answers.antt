use Rattle.bag_renew_cli.proofs.renewal_line.put_not_renewed.Goals as goal

pub returns-in-NoAlgorithm : goal.returns-in-NoAlgorithm
returns-in-NoAlgorithm g c = rw c.in-NoAlgorithm.is c.put_not_done-in-NoAlgorithm.ensures

pub returns-in-InTheWay : goal.returns-in-InTheWay
returns-in-InTheWay g c = rw c.in-InTheWay.is (rw c.as_str.ensures at c.put_path.ensures)

pub returns-in-Unnameable : goal.returns-in-Unnameable
returns-in-Unnameable g c = rw c.in-Unnameable.is (rw c.as_str-in-Unnameable.ensures at c.put_path-in-Unnameable.ensures)

pub returns-in-Outdated : goal.returns-in-Outdated
returns-in-Outdated g c = rw c.in-Outdated.is (rw c.as_str-in-Outdated.ensures at c.put_path-in-Outdated.ensures)

pub returns-in-Unlisted : goal.returns-in-Unlisted
returns-in-Unlisted g c = rw c.in-Unlisted.is (rw c.as_str-in-Unlisted.ensures at c.put_path-in-Unlisted.ensures)
