-- What the private functions answer. Assumes nothing.
use Rattle.std.specs.Prelude.{ℕ, zero, suc, ◌+◌, ◌-◌, ◌*◌, ◌/◌, ◌%◌, ◌^◌, ◌≤◌, ◌<◌, ◌≡◌, List, [], ◌∷◌, length}
use Rattle.wire.specs.Fields.{wrote}
use Rattle.board.specs.Cells.{most_columns, cell_instant, cell_or}
use Rattle.board.specs.declared.grid.Grid.{Grid}
use Rattle.board.specs.declared.grid.Pace.{Pace}
use Rattle.board.specs.declared.grid.Column.{Column}
use Rattle.board.specs.declared.grid.Mixed.{Mixed}

-- a window that is not empty, cut into columns
pub record Good (g : Grid) : Type 0 where
  pub some : 0 < g.columns
  pub few : g.columns ≤ most_columns
  pub long : 0 < g.span
  pub end : g.start + g.span < 2 ^ 64

-- the quotient and the remainder of the span by the columns
pub record PaceOf (g : Grid) (p : Pace) : Type 0 where
  pub whole : p.whole ≡ g.span / g.columns
  pub rest : p.rest ≡ g.span % g.columns

-- one of the columns, or the one behind them all, with its instant and the remainder of the division in that instant
pub record ColumnOf (g : Grid) (x : Column) : Type 0 where
  pub inside : x.c ≤ g.columns
  pub at : x.at ≡ cell_instant g x.c
  pub part : x.part ≡ g.span * x.c % g.columns

-- how much a mixed number of spans is
abbrev pub amount : ℕ → Mixed → ℕ
amount span a = a.whole * span + a.part

pub record Small (span : ℕ) (a : Mixed) : Type 0 where
  pub part : a.part < span
  pub few : a.whole ≤ most_columns

pub record Sum (span : ℕ) (a b r : Mixed) : Type 0 where
  pub same : amount span r ≡ amount span a + amount span b
  pub part : r.part < span

-- n cells from the cell c on that show one byte, but for the marker
unfoldable pub alike : Grid → ℕ → ℕ → ℕ → List ℕ
alike g byte zero c = []
alike g byte (suc n) c = cell_or g.marker c byte ∷ alike g byte n (suc c)

-- The cells from `first` to before r have instants before the limit and were written alike; those from r on do not.
pub record CellsFilled (g : Grid) (first limit byte : ℕ) (old new : List ℕ) (r : ℕ) : Type 0 where
  pub same : new ≡ wrote old (1 + first) (alike g byte (r - first) first)
  pub after : first ≤ r
  pub inside : r ≤ g.columns
  pub kept : length new ≡ length old
  pub before : (i : ℕ) → first ≤ i → i < r → cell_instant g i < limit
  pub behind : (i : ℕ) → r ≤ i → i < g.columns → limit ≤ cell_instant g i
