use Rattle.bag_cli.proofs.words_refusal.say_usage.Goals as goal

pub returns-in-NeedsValidate : goal.returns-in-NeedsValidate
returns-in-NeedsValidate g c = rw c.in-NeedsValidate.is (rw c.id.ensures at c.say_on.ensures)

pub returns-in-JoinWithOther : goal.returns-in-JoinWithOther
returns-in-JoinWithOther g c = rw c.in-JoinWithOther.is c.say_on-in-JoinWithOther.ensures

pub returns-in-TwoDepths : goal.returns-in-TwoDepths
returns-in-TwoDepths g c = rw c.in-TwoDepths.is c.say_on-in-TwoDepths.ensures

pub returns-in-AfterSeveral : goal.returns-in-AfterSeveral
returns-in-AfterSeveral g c = rw c.in-AfterSeveral.is c.say_on-in-AfterSeveral.ensures

pub returns-in-AfterNotALine : goal.returns-in-AfterNotALine
returns-in-AfterNotALine g c = rw c.in-AfterNotALine.is c.say_on-in-AfterNotALine.ensures

pub returns-in-PartOfDepth : goal.returns-in-PartOfDepth
returns-in-PartOfDepth g c = rw c.in-PartOfDepth.is c.say_on-in-PartOfDepth.ensures

pub returns-in-NotAPart : goal.returns-in-NotAPart
returns-in-NotAPart g c = rw c.in-NotAPart.is c.say_on-in-NotAPart.ensures

pub returns-in-Memory : goal.returns-in-Memory
returns-in-Memory g c = rw c.in-Memory.is c.say_on-in-Memory.ensures
