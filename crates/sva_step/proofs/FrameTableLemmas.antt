-- What a frame table of 48 places keeps when one more frame is written behind the others.
use Rattle.std.proofs.Common.{◌≡◌, ℕ, ◌+◌, ◌-◌, ◌<◌, List, drop, set, replicate, arith}
use Rattle.std.proofs.lemmas.List.{drop-set-lt, drop-drop, drop-replicate}

-- the zeros behind the frames are one fewer
pub drop-push : (frames : List ℕ) (len frame : ℕ) → drop len frames ≡ replicate (48 - len) 0
    → drop (len + 1) (set frames len frame) ≡ replicate (48 - (len + 1)) 0
drop-push frames len frame zeros =
    let below : len < len + 1 = omega arith in
    let fewer : 48 - len - 1 ≡ 48 - (len + 1) = omega arith in
    rw (drop-set-lt (len + 1) frames len frame below, ← drop-drop 1 len frames, zeros, drop-replicate, fewer)
