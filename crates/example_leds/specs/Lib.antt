pub mod Leds
