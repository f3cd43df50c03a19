-- The numbers that a host gets.
use Rattle.std.specs.Prelude.{ℕ, Option, None, Some}
use Rattle.rules.specs.declared.Report.{Report}
use Rattle.rules.specs.declared.Verdict.{Verdict}
use Rattle.rules.specs.declared.PairReport.{PairReport}
use Rattle.rules.specs.Bytes.{Result, given, refused}
use Rattle.rules.specs.Values.{flag_number, Told, Values, values_of}
use Rattle.altseq.specs.declared.alone.Transcribed.{Transcribed}
use Rattle.host_told.specs.declared.GarumbottLength.{GarumbottLength}
use Rattle.host_told.specs.declared.GarumbottAnswer.{GarumbottAnswer}
use Rattle.host_told.specs.declared.GarumbottChecked.{GarumbottChecked}
use Rattle.host_told.specs.declared.GarumbottPaired.{GarumbottPaired}

-- what a function that fills one buffer answers
abbrev pub length_of : Result ℕ → GarumbottLength
length_of (refused n) = record { refusal = n; len = 0 }
length_of (given n) = record { refusal = 0; len = n }

-- an answer's number, a refusal's number, and nothing else
abbrev pub alone_of : ℕ → ℕ → GarumbottAnswer
alone_of answer refusal =
    record {
      answer = answer;
      refusal = refusal;
      frameshift = 0;
      transcript_len = 0;
      reference_len = 0;
      altered_len = 0;
      change = 0;
      number = 0;
      deleted_at = 0;
      deleted_len = 0;
      inserted_at = 0;
      inserted_len = 0;
      first = 0;
      codons = 0;
    }

-- the papers' number and values for each case of an answer
abbrev pub numbers_of : Values → GarumbottAnswer
numbers_of v =
    record {
      answer = v.told.answer;
      refusal = v.refusal;
      frameshift = v.frameshift;
      transcript_len = v.transcript;
      reference_len = v.reference;
      altered_len = v.altered;
      change = v.told.class;
      number = v.told.number;
      deleted_at = v.told.deleted_at;
      deleted_len = v.told.deleted_len;
      inserted_at = v.told.inserted_at;
      inserted_len = v.told.inserted_len;
      first = v.told.first;
      codons = v.codons;
    }

abbrev pub answer_of : Result Report → GarumbottAnswer
answer_of a = numbers_of (values_of a)

-- what a record tells, with no flag, no lengths and no codon looked up
abbrev pub told_of : Told → GarumbottAnswer
told_of t = numbers_of (record { refusal = 0; frameshift = 0; transcript = 0; reference = 0; altered = 0; told = t; codons = 0 })

-- the altered transcript alone: answer 4 where it was written
abbrev pub transcribed_of : Result (Option Transcribed) → GarumbottAnswer
transcribed_of (refused n) = alone_of 0 n
transcribed_of (given None) = alone_of 1 0
transcribed_of (given (Some x)) =
    record {
      answer = 4;
      refusal = 0;
      frameshift = flag_number x.frameshift;
      transcript_len = x.length;
      reference_len = 0;
      altered_len = 0;
      change = 0;
      number = 0;
      deleted_at = 0;
      deleted_len = 0;
      inserted_at = 0;
      inserted_len = 0;
      first = 0;
      codons = 0;
    }

-- what a proposed record is answered
abbrev pub checked_of : Result Verdict → GarumbottChecked
checked_of (refused n) =
    record { refusal = n; replays = 0; shortest = 0; transcript_len = 0; reference_len = 0; altered_len = 0 }
checked_of (given v) =
    record {
      refusal = 0;
      replays = flag_number v.replays;
      shortest = flag_number v.shortest;
      transcript_len = v.transcript;
      reference_len = v.reference;
      altered_len = v.altered;
    }

-- what a pair is answered: a refusal's number and no lengths, or the bytes written to each of the two buffers
abbrev pub paired_of : Result PairReport → GarumbottPaired
paired_of (refused n) = record { refusal = n; transcript_len = 0; altered_len = 0 }
paired_of (given x) = record { refusal = 0; transcript_len = x.transcript; altered_len = x.altered }
