-- The numbers of refusals (01, "Refusal numbers, also the order of checking"; 02), and an answer that is a refusal or not.
use Rattle.std.specs.Prelude.{ℕ, ◌≡◌, Bool, List, [], ◌∷◌, Option, None, Some, Result, Ok, Err, cond, eqb}
use Rattle.record.specs.Checks.{Row, row}
use Rattle.refusal.specs.declared.Refusal.{Refusal}
use Rattle.refusal.specs.declared.Refusal.TheVariants.{ScreenRecord, Depth, Rotation, Panel, ViewWidth, MainImage, WindowPlace, WindowDwords, WindowImage, ListLength, ListDepth, CommandForm, EmptyRectangle, Outside, FewWords, WordsLeft, Room, MemoryLength, StreamLength, Register, Value, Reach, DataWord, Point, Address, LineLength, WearRange, LongOnly, Shared, Block}
use Rattle.refusal.specs.declared.Refused.{Refused}

-- 01's number of a refusal
unfoldable pub number : Refusal → ℕ
number ScreenRecord = 1
number Depth = 2
number Rotation = 3
number Panel = 4
number ViewWidth = 5
number MainImage = 6
number WindowPlace = 7
number WindowDwords = 8
number WindowImage = 9
number ListLength = 10
number ListDepth = 11
number CommandForm = 12
number EmptyRectangle = 13
number Outside = 14
number FewWords = 15
number WordsLeft = 16
number Room = 17
number MemoryLength = 18
number StreamLength = 19
number Register = 20
number Value = 21
number Reach = 22
number DataWord = 23
number Point = 24
number Address = 25
number LineLength = 26
number WearRange = 27
number LongOnly = 28
number Shared = 29
number Block = 32

-- the refusal with this number
unfoldable pub refusal : ℕ → Refusal
refusal n =
    cond (eqb n 1) ScreenRecord
    (cond (eqb n 2) Depth
    (cond (eqb n 3) Rotation
    (cond (eqb n 4) Panel
    (cond (eqb n 5) ViewWidth
    (cond (eqb n 6) MainImage
    (cond (eqb n 7) WindowPlace
    (cond (eqb n 8) WindowDwords
    (cond (eqb n 9) WindowImage
    (cond (eqb n 10) ListLength
    (cond (eqb n 11) ListDepth
    (cond (eqb n 12) CommandForm
    (cond (eqb n 13) EmptyRectangle
    (cond (eqb n 14) Outside
    (cond (eqb n 15) FewWords
    (cond (eqb n 16) WordsLeft
    (cond (eqb n 17) Room
    (cond (eqb n 18) MemoryLength
    (cond (eqb n 19) StreamLength
    (cond (eqb n 20) Register
    (cond (eqb n 21) Value
    (cond (eqb n 22) Reach
    (cond (eqb n 23) DataWord
    (cond (eqb n 24) Point
    (cond (eqb n 25) Address
    (cond (eqb n 26) LineLength
    (cond (eqb n 27) WearRange
    (cond (eqb n 28) LongOnly
    (cond (eqb n 29) Shared
    Block))))))))))))))))))))))))))))

-- the number of an answer, whose refusals have these numbers: 0 where it is accepted
unfoldable pub number_by : {E A : Type 0} → (E → ℕ) → Result A E → ℕ
number_by number_in (Ok a) = 0
number_by number_in (Err r) = number_in r

-- 01's number of an answer
abbrev pub number_of : {A : Type 0} → Result A Refusal → ℕ
number_of a = number_by number a

-- the answer by a number: what is accepted, or the refusal with that number
unfoldable pub answered : {A : Type 0} → ℕ → A → Result A Refusal
answered n a = cond (eqb n 0) (Ok a) (Err (refusal n))

-- the same with a place
unfoldable pub answered_at : {A : Type 0} → ℕ → ℕ → A → Result A Refused
answered_at n place a = cond (eqb n 0) (Ok a) (Err (record { refusal = refusal n; place = place }))

-- number and place of a refusal that there may be; 0 and 0 where there is none
unfoldable pub number_at : Option Refused → ℕ
number_at None = 0
number_at (Some r) = number r.refusal

unfoldable pub place_at : Option Refused → ℕ
place_at None = 0
place_at (Some r) = r.place

-- number and place of a refusal
abbrev pub refused_number : Refused → ℕ
refused_number r = number r.refusal

abbrev pub refused_place : Refused → ℕ
refused_place r = r.place

-- an answer with what tells of its refusal in the refusal's place
unfoldable pub told_by : {A E : Type 0} → (Refused → E) → Result A Refused → Result A E
told_by told (Ok a) = Ok a
told_by told (Err r) = Err (told r)

-- the rows of a table from its refusals, which have these numbers, and what the checks found
unfoldable pub rows_from : {E : Type 0} → (E → ℕ) → List (E × Bool) → List Row
rows_from number_in [] = []
rows_from number_in (c ∷ cs) = row (number_in c.0) c.1 ∷ rows_from number_in cs

-- with 01's numbers
abbrev pub rows_by : List (Refusal × Bool) → List Row
rows_by cs = rows_from number cs

-- x is the refusal r, and names no place
abbrev pub Nowhere : Refusal → Refused → Type 0
Nowhere r x = x ≡ record { refusal = r; place = 0 }

-- what the checks found
unfoldable pub found_by : {E : Type 0} → List (E × Bool) → List Bool
found_by [] = []
found_by (c ∷ cs) = c.1 ∷ found_by cs
