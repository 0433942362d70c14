-- What it is to promise what an operation promises. For lifetimes k and arguments a, `Asks k a` is what an exported function asks of its caller, and
-- `Tells k a r s` what it tells of the result r and of what the parameters hold at exit, s.
use Rattle.std.specs.Prelude.{◌≡◌}

-- It asks nothing, and its contract is `Operation`: the operation's own, or what goes out (`Handed`) of an answer that the operation's own allows.
pub record Same {K : Type 0} {A R S : K → Type 0} (Asks : (k : K) → A k → Type 0) (Tells Operation : (k : K) → A k → R k → S k → Type 0) : Type 1 where
  pub free : (k : K) (a : A k) → Asks k a
  pub same : Tells ≡ Operation
