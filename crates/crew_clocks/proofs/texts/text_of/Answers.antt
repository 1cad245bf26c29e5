use Rattle.std.proofs.Common.{◌≡◌, ◌+◌, ◌*◌, ◌/◌, ◌%◌, arith}
use Rattle.crew_clocks.proofs.CivilFacts.{form_of-digits}
use Rattle.crew_clocks.proofs.texts.text_of.Goals as goal

pub returns : goal.returns
returns c =
    let y = c.args.year in
    let t = c.args.of_day in
    let digits = form_of-digits (y / 1_000) (y / 100 % 10) (y / 10 % 10) (y % 10) (c.args.month / 10) (c.args.month % 10) (c.args.day / 10) (c.args.day % 10)
    (t / 600) (t / 60 % 10) (t % 60 / 10) (t % 60 % 10)
    (omega arith) (omega arith) (omega arith) (omega arith) (omega arith) (omega arith) (omega arith) (omega arith) (omega arith) (omega arith) (omega arith) (omega arith) in
    let year : ((y / 1_000) * 10 + y / 100 % 10) * 100 + ((y / 10 % 10) * 10 + y % 10) ≡ y = omega arith in
    let month : (c.args.month / 10) * 10 + c.args.month % 10 ≡ c.args.month = omega arith in
    let day : (c.args.day / 10) * 10 + c.args.day % 10 ≡ c.args.day = omega arith in
    let hour : (t / 600) * 10 + t / 60 % 10 ≡ t / 60 = omega arith in
    let minute : (t % 60 / 10) * 10 + t % 60 % 10 ≡ t % 60 = omega arith in
    rw (year, month, day, hour, minute) at digits
