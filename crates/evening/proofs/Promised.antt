-- What is promised of stored settings.
use Rattle.request.specs.Request.{request_of}
use Rattle.evening.specs.Evenings.{Evenings}
use Rattle.evening.proofs.Asking.{asked_holdable, shown_asks}
use Rattle.evening.proofs.Settling.{settled_stored, settled_keeps, settled_suppresses, no_file, no_input}
use Rattle.evening.proofs.Fitting.{file_fits, text_fits, settings_enough, front_enough, filed_fits, block_enough}

pub evenings : Evenings
evenings =
    record {
      as_words =
          λ form count first second third fourth s lent h. settled_stored form (request_of count first second third fourth) s lent (asked_holdable count first second third fourth) h;
      shown_asks = shown_asks;
      keeps = settled_keeps;
      suppresses = settled_suppresses;
      no_file = no_file;
      no_input = no_input;
      file_fits = file_fits;
      text_fits = text_fits;
      settings_enough = settings_enough;
      front_enough = front_enough;
      stored_fits = λ count first second third fourth s. (filed_fits count first second third fourth s).file_short;
      said_fits = λ count first second third fourth s. (filed_fits count first second third fourth s).text_short;
      block_enough = block_enough;
    }
