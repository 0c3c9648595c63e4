-- Document 01's numbers of the refusals, and what a reply says of them. Assumes nothing.
use Rattle.std.specs.Prelude.{ℕ, Result, Ok, Err}
use Rattle.lend.specs.declared.Reply.{Reply}
use Rattle.lend.specs.declared.refusal.Refusal.{Refusal}
use Rattle.lend.specs.declared.refusal.Refusal.TheVariants.{BookTooLong, BadFrame, TooMany, BadField, LateStart, PointsFall, DaysReversed, CoversNothing, TooClose, Outside, WindowReversed, WindowEmpty, TallyTooLong, TooManyColumns, BadRow, NoRoom}

abbrev pub number : Refusal → ℕ
number BookTooLong = 1
number BadFrame = 2
number TooMany = 3
number BadField = 4
number LateStart = 5
number PointsFall = 6
number DaysReversed = 7
number CoversNothing = 8
number TooClose = 9
number Outside = 10
number WindowReversed = 11
number WindowEmpty = 12
number TallyTooLong = 13
number TooManyColumns = 14
number BadRow = 15
number NoRoom = 16

-- of what was judged: 0 where it passes, else the number of what says why
abbrev pub number_by : {A E : Type 0} → (E → ℕ) → Result A E → ℕ
number_by said (Ok x) = 0
number_by said (Err e) = said e

abbrev pub number_of : {A : Type 0} → Result A Refusal → ℕ
number_of r = number_by number r

-- the same answer with the number in place of what says why
abbrev pub numbered_by : {A E : Type 0} → (E → ℕ) → Result A E → Result A ℕ
numbered_by said (Ok x) = Ok x
numbered_by said (Err e) = Err (said e)

abbrev pub numbered : {A : Type 0} → Result A Refusal → Result A ℕ
numbered r = numbered_by number r

-- the reply that tells it: the number and length 0, or 0 and the length
abbrev pub reply_of : Result ℕ Refusal → Reply
reply_of (Ok n) = record { number = 0; length = n }
reply_of (Err r) = record { number = number r; length = 0 }
