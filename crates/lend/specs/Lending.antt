-- What lending room means, for every entry point. Assumes nothing.
use Rattle.std.specs.Prelude.{ℕ, ◌≡◌, cond, List, ◌++◌, length, drop, ltb, eqb}
use Rattle.lend.specs.declared.Reply.{Reply}

-- the number given back: that of the question, else 16 where the answer is longer than the room
unfoldable pub verdict : ℕ → List ℕ → List ℕ → ℕ
verdict number answer room = cond (eqb number 0) (cond (ltb (length room) (length answer)) 16 0) number

-- refused: the number, length 0, and the room as it was; answered: 0, the length, the answer's bytes, and the old bytes past them
pub record Lent (number : ℕ) (answer room left : List ℕ) (r : Reply) : Type 0 where
  pub says : r.number ≡ verdict number answer room
  pub long : r.length ≡ cond (eqb (verdict number answer room) 0) (length answer) 0
  pub bytes : left ≡ cond (eqb (verdict number answer room) 0) (answer ++ drop (length answer) room) room
