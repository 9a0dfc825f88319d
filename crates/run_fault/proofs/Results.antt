-- From one fact about a result to another.
use Rattle.std.proofs.Common.{Option, None, Some, Ok, Err}
use Rattle.std.specs.Prelude.{IfErr, IfOk, IfSome, OnOk, Result}

pub with_both : {X Y : Type 0} (a : Option X) (b : Option Y) (P Q : X → Y → Type 0) → ((x : X) (y : Y) → P x y → Q x y) → IfSome a (λ x. IfSome b (λ y. P x y)) →
    IfSome a (λ x. IfSome b (λ y. Q x y))
with_both None b P Q f h = tt
with_both (Some x) None P Q f h = tt
with_both (Some x) (Some y) P Q f h = f x y h

pub with_ok : {X E : Type 0} (r : Result X E) (P Q : X → Type 0) → ((x : X) → P x → Q x) → IfOk r P → IfOk r Q
with_ok (Ok x) P Q f h = f x h
with_ok (Err e) P Q f h = tt

pub with_on_ok : {X E : Type 0} (r : Result X E) (P Q : Type 0) → (P → Q) → OnOk r P → OnOk r Q
with_on_ok (Ok x) P Q f h = f h
with_on_ok (Err e) P Q f h = tt

pub with_err : {X E : Type 0} (r : Result X E) (P Q : E → Type 0) → ((e : E) → P e → Q e) → IfErr r P → IfErr r Q
with_err (Ok x) P Q f h = tt
with_err (Err e) P Q f h = f e h
