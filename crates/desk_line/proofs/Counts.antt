-- What is counted is there: for those who lend the first bytes of the buffer that was fed, to be written.
use mathlib.Core.Path.{◌≡◌, sym, ap}
use mathlib.Core.List.{List}
use Prim.Native.Nat.{ℕ, ◌≤◌}
use native.Mathlib.Omega.{arith}
use lib.ListN.{length, take, length-append}
use lib.Seq.{length-take-le}
use Rattle.desk_line.specs.declared.desk.Desk.{Desk}
use Rattle.desk_line.specs.declared.desk.Fed.{Fed}
use Rattle.desk_line.specs.Promises.{Feeds}

module _ {d e : Desk} {piece before exit : List ℕ} {r : Fed} (f : Feeds d piece before e exit r) where
  pub feeds_fits : r.written ≤ length exit
  feeds_fits = omega (arith, f.count, simp length-append at (ap length f.bytes))

  pub feeds_count : r.written ≡ length (take r.written exit)
  feeds_count = sym (length-take-le r.written exit feeds_fits)
