-- `order::refuse` meets its contract: one arm for each cause. Assumes nothing.
use Rattle.rules.specs.Order.{refused}
use Rattle.order.specs.Ending.{reason}
use Rattle.order.proofs.refuse.Goals as goal

pub returns-in-InvalidOperation : goal.returns-in-InvalidOperation
unfolding refused reason
returns-in-InvalidOperation c = λ elements rest buffer. rw c.in-InvalidOperation.is (c.check.ensures elements rest buffer)

pub returns-in-InvalidField : goal.returns-in-InvalidField
unfolding refused reason
returns-in-InvalidField c = λ elements rest buffer. rw c.in-InvalidField.is (c.check-in-InvalidField.ensures elements rest buffer)

pub returns-in-ListLength : goal.returns-in-ListLength
unfolding refused reason
returns-in-ListLength c = λ elements rest buffer. rw c.in-ListLength.is (c.check-in-ListLength.ensures elements rest buffer)

pub returns-in-ListField : goal.returns-in-ListField
unfolding refused reason
returns-in-ListField c = λ elements rest buffer. rw c.in-ListField.is (c.check-in-ListField.ensures elements rest buffer)

pub returns-in-WrongAddress : goal.returns-in-WrongAddress
unfolding refused reason
returns-in-WrongAddress c = λ elements rest buffer. rw c.in-WrongAddress.is (c.check-in-WrongAddress.ensures elements rest buffer)

pub returns-in-SourceEmpty : goal.returns-in-SourceEmpty
unfolding refused reason
returns-in-SourceEmpty c = λ elements rest buffer. rw c.in-SourceEmpty.is (c.check-in-SourceEmpty.ensures elements rest buffer)

pub returns-in-DestinationFull : goal.returns-in-DestinationFull
unfolding refused reason
returns-in-DestinationFull c = λ elements rest buffer. rw c.in-DestinationFull.is (c.check-in-DestinationFull.ensures elements rest buffer)

pub returns-in-IncompatibleMedium : goal.returns-in-IncompatibleMedium
unfolding refused reason
returns-in-IncompatibleMedium c = λ elements rest buffer. rw c.in-IncompatibleMedium.is (c.check-in-IncompatibleMedium.ensures elements rest buffer)
