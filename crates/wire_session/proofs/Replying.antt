-- What a truth is as a byte, and no record. By cases. Assumes nothing.
use Rattle.std.specs.Prelude.{Option, None}
use mathlib.Core.Bool.{Bool, true, false, cond}
use mathlib.Core.List.{List}
use mathlib.Core.Path.{◌≡◌, refl}
use Prim.Native.Nat.{ℕ}
use mir.Val.{bool_byte}
use Rattle.wire_records.specs.declared.Reply.{Reply}
use Rattle.wire_session.specs.Replies.{NoRecord}

pub bool_byte_lem : (b : Bool) → bool_byte b ≡ cond b 1 0
bool_byte_lem true = refl
bool_byte_lem false = refl

pub no_record : {l : List ℕ} {r : Option Reply} → r ≡ None → NoRecord l r l
no_record e = record { reply = e; bytes = refl }
