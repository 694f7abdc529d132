-- What clauses say of a board.
use Rattle.atomic_table.specs.Seated.{TableId}
use Rattle.ww_lock.specs.declared.board.Board.{Board}

module _ {W P X T : Type 0} where
  -- tells which board it is: its seats are of the same table
  abbrev pub table_of : Board W P X T → TableId
  table_of b = b.table.shared.table_id

  -- gives the pivot that the board was made of
  abbrev pub first_pivot : Board W P X T → P
  first_pivot b = b.table.shared.key.pivot.value
